use Rattle.std.proofs.Common.{◌≡◌, drop, get_or}
use Rattle.htl_model.proofs.Words.{places_from, mode_of_module}
use Rattle.htl_model.proofs.selections.mode_at.Given as goal

abbrev pub invariant-loop-k : goal.invariant-loop-k
invariant-loop-k l =
    get_or (places_from (mode_of_module l.module) l.k (drop l.k l.modes)) l.left 0 ≡ get_or (places_from (mode_of_module l.module) 0 l.modes) l.place 0
