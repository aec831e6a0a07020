use Rattle.htl_audit.proofs.Words.{map, subst, arith, take_all, unit_period, IsNextIn}
use Rattle.htl_audit.proofs.starts.next_of.Goals as goal

pub returns : goal.returns
returns c =
    subst (λ us. IsNextIn (map (unit_period c.args.t.now) us) c.args.at c.loop-k.next) (take_all c.loop-k.k c.args.roots.now (omega arith)) c.loop-k.invariant
