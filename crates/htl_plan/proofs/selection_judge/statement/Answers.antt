use Rattle.htl_plan.proofs.{Words.sym, Words.ap, Words.Option, Words.List, Words.ℕ, Words.entered, SelectionFields.named_by-many}
use Rattle.htl_plan.proofs.selection_judge.statement.Goals as goal

pub returns-in-Some-cut-2 : goal.returns-in-Some-cut-2
returns-in-Some-cut-2 c =
    let field = c.in-Some-cut-2.field-0 in
    ap (λ (o : Option (List ℕ × List ℕ)). entered c.args.t.now c.args.modes.now o)
    (sym (named_by-many c.args.text.now c.in-Some.rest.now c.in-Some-cut.mode.now c.in-Some.word.now c.in-Some-cut.unit.now field.0.now field.1.now
    c.in-Some.ensures c.in-Some-cut.ensures c.in-Some-cut-2.ensures))
