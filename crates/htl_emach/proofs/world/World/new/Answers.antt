use Rattle.htl_emach.proofs.{Words.sym, Words.subst, Words.IsShaped, Keeping.first_shaped}
use Rattle.htl_emach.proofs.world.World.new.Goals as goal

pub returns-clause-shaped : goal.returns-clause-shaped
returns-clause-shaped c = subst (IsShaped c.args.t.now) (sym c.in-Ok.ensures) (first_shaped c.args.t.now c.keeps_ranges.ensures.ranges)
