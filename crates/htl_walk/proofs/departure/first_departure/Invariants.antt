use Rattle.std.proofs.Common.{ℕ, ◌<◌}
use Rattle.htl_walk.specs.Misses.{DepartsAt}
use Rattle.htl_walk.proofs.departure.first_departure.Given as goal

abbrev pub invariant-loop-k : goal.invariant-loop-k
invariant-loop-k l = (m : ℕ) → m < l.k → DepartsAt l.count l.period l.instrs m → ⊥
