use Rattle.std.proofs.Common.{rules, sym, ◌∙◌}
use Rattle.htl_audit.proofs.Steps.{short_stop, short_go}
use Rattle.htl_audit.proofs.ledger.Ledger.any_fell_short.Goals as goal

pub returns-then-fell_short : goal.returns-then-fell_short
returns-then-fell_short c =
    short_stop c.args.t.now c.args.now c.args.self.now c.loop-n.n c.args.t.now.invs _ (search rules) (sym c.fell_short.ensures ∙ c.if-fell_short.true) c.loop-n.invariant

pub loop-n-preserved : goal.loop-n-preserved
loop-n-preserved c =
    short_go c.args.t.now c.args.now c.args.self.now c.loop-n.n c.args.t.now.invs _ (search rules) (sym c.fell_short.ensures ∙ c.if-fell_short.false) c.loop-n.invariant
