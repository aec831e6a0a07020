use Rattle.std.proofs.Common.{◌≡◌, drop, get_or}
use Rattle.htl_walk.proofs.Words.{places_from, mode_of_module}
use Rattle.htl_walk.proofs.extents.mode_at.Given as goal

abbrev pub invariant-loop-k : goal.invariant-loop-k
invariant-loop-k l = get_or (places_from (mode_of_module l.module) l.k (drop l.k l.list)) l.left 0 ≡ get_or (places_from (mode_of_module l.module) 0 l.list) l.place 0
