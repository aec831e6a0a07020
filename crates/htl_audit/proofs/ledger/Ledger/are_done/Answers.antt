use Rattle.std.proofs.Common.{rules, sym, ◌∙◌}
use Rattle.htl_audit.proofs.Feeding.{done_stop, done_go}
use Rattle.htl_audit.proofs.ledger.Ledger.are_done.Goals as goal

pub returns-then-not-is_done : goal.returns-then-not-is_done
returns-then-not-is_done c = done_stop c.args.self.now.roster c.args.self.now.sums c.args.invs.now _ c.loop-k.k _ (search rules) (sym c.is_done.ensures ∙ c.if-not-is_done.true) c.loop-k.invariant

pub loop-k-preserved : goal.loop-k-preserved
loop-k-preserved c = done_go c.args.self.now.roster c.args.self.now.sums c.args.invs.now _ c.loop-k.k _ (search rules) (sym c.is_done.ensures ∙ c.if-not-is_done.false) c.loop-k.invariant
