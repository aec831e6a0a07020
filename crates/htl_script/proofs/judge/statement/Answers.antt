use Rattle.std.proofs.Common.{◌∙◌, sym, ap, Option}
use Rattle.htl_script.proofs.{Words.Statement, Words.judged_statement, Worded.statement-worded}
use Rattle.htl_script.specs.Statements.{statement_of_fields}
use Rattle.htl_script.proofs.judge.statement.Goals as goal

pub returns-in-Some : goal.returns-in-Some
returns-in-Some c =
    let says = ap statement_of_fields c.in-Some.ensures ∙ statement-worded c.in-Some.word.now c.in-Some.rest.now in
    c.worded.ensures ∙ ap (λ (s : Option Statement). judged_statement c.args.names.now c.args.past s) (sym says)
