use Rattle.std.proofs.Common.{◌≡◌, ◌+◌, ◌≤◌, length, drop}
use Rattle.htl_model.proofs.Words.{places_from, inv_of_mode}
use Rattle.htl_times.proofs.path_places.inv_count.Given as goal

abbrev pub invariant-loop-k : goal.invariant-loop-k
invariant-loop-k l = (l.n + length (places_from (inv_of_mode l.mode) l.k (drop l.k l.invs)) ≡ length (places_from (inv_of_mode l.mode) 0 l.invs)) × (l.n ≤ l.k)
