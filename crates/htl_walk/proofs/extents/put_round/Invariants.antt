use Rattle.std.proofs.Common.{◌≡◌, ◌+◌, ◌++◌, length, take, drop}
use Rattle.htl_walk.proofs.Words.{places_from, inv_of_mode, invs_of, places_of}
use Rattle.htl_walk.proofs.extents.put_round.Given as goal

abbrev pub invariant-loop-k : goal.invariant-loop-k
invariant-loop-k l = record {
  front : take l.end l.out ++ places_of l.at (places_from (inv_of_mode l.mode) l.k (drop l.k l.list)) ≡ take l.n l.initial.out ++ places_of l.at (invs_of l.t l.mode);
  count : l.end + length (places_of l.at (places_from (inv_of_mode l.mode) l.k (drop l.k l.list))) ≡ l.n + length (places_of l.at (invs_of l.t l.mode));
  len : length l.out ≡ length l.initial.out;
}
