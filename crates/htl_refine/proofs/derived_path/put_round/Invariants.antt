use Rattle.std.proofs.Common.{◌≡◌, ◌+◌, ◌++◌, length, map, take, drop}
use Rattle.htl_refine.proofs.Words.{places_from, inv_of_mode, invs_of, places_of, standing_place}
use Rattle.htl_refine.proofs.derived_path.put_round.Given as goal

abbrev pub invariant-loop-k : goal.invariant-loop-k
invariant-loop-k l = record {
  front :
      take l.end l.out ++ map (standing_place l.t l.running.modes.now) (places_of l.at (places_from (inv_of_mode l.mode) l.k (drop l.k l.invs)))
      ≡ take l.n l.initial.out ++ map (standing_place l.t l.running.modes.now) (places_of l.at (invs_of l.t l.mode));
  count : l.end + length (places_of l.at (places_from (inv_of_mode l.mode) l.k (drop l.k l.invs))) ≡ l.n + length (places_of l.at (invs_of l.t l.mode));
  len : length l.out ≡ length l.initial.out;
}
