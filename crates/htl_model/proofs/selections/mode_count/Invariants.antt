use Rattle.std.proofs.Common.{◌≡◌, ◌+◌, ◌≤◌, length, drop}
use Rattle.htl_model.proofs.Words.{places_from, mode_of_module}
use Rattle.htl_model.proofs.selections.mode_count.Given as goal

abbrev pub invariant-loop-k : goal.invariant-loop-k
invariant-loop-k l =
    (l.n + length (places_from (mode_of_module l.module) l.k (drop l.k l.modes)) ≡ length (places_from (mode_of_module l.module) 0 l.modes)) × (l.n ≤ l.k)
