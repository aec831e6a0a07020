use Rattle.std.proofs.Common.{◌≡◌, ℕ, length, drop, get_or}
use Rattle.htl_walk.proofs.Words.{Stand, no_items, places_from, inv_of_mode}
use Rattle.htl_walk.proofs.extents.inv_extents.Given as goal

abbrev pub invariant-loop-k : goal.invariant-loop-k
invariant-loop-k l = record {
  stand : (n : ℕ) → Stand (inv_of_mode n) l.k (places_from (inv_of_mode n) l.k (drop l.k l.invs)) (get_or l.table n no_items) l.invs;
  room : length l.table ≡ 256;
}
