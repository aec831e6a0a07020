use Rattle.std.proofs.Common.{sym, subst, ◌∙◌}
use Rattle.htl_audit.specs.Auditing.{AreDue}
use Rattle.htl_audit.proofs.Dues.{none_noted, settled_due}
use Rattle.htl_audit.proofs.ledger.Ledger.settle.Goals as goal

pub returns-else-any_fell_short-clause-due : goal.returns-else-any_fell_short-clause-due
returns-else-any_fell_short-clause-due c =
    subst (AreDue c.args.t.now c.next_due-due.result) (none_noted c.args.t.now c.args.now c.args.self.now (sym c.any_fell_short.ensures ∙ c.if-any_fell_short.false))
    (settled_due c.args.t.now c.args.now c.next_due-due.result c.args.self.now c.requires.rows c.next_due-due.ensures)
