use Rattle.std.proofs.Common.{◌∙◌, sym, ap, List, ℕ, Option}
use Rattle.htl_script.proofs.{Words.Statement, Words.judged_statement, Worded.named_fields-digits}
use Rattle.htl_script.specs.Statements.{named_fields}
use Rattle.htl_script.proofs.judge.behind_word.Goals as goal

pub returns-in-Some : goal.returns-in-Some
returns-in-Some c =
    let word = c.args.word.now in
    let says =
    ap (λ (fs : List (List ℕ)). named_fields word fs) c.in-Some.ensures ∙ named_fields-digits word c.in-Some.name.now c.in-Some.digits.now in
    c.named.ensures ∙ ap (λ (s : Option Statement). judged_statement c.args.names.now c.args.past s) (sym says)
