use Rattle.std.proofs.Common.{◌≡◌, ℕ, length, drop, get_or}
use Rattle.htl_walk.proofs.Words.{Stand, no_items, places_from, mode_of_module}
use Rattle.htl_walk.proofs.extents.mode_extents.Given as goal

abbrev pub invariant-loop-k : goal.invariant-loop-k
invariant-loop-k l = record {
  stand : (n : ℕ) → Stand (mode_of_module n) l.k (places_from (mode_of_module n) l.k (drop l.k l.modes)) (get_or l.table n no_items) l.modes;
  room : length l.table ≡ 64;
}
