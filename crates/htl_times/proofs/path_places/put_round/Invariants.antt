use Rattle.std.proofs.Common.{◌≡◌, ◌+◌, ◌++◌, length, take}
use Rattle.htl_times.specs.PathPlaces.{run_places}
use Rattle.htl_times.proofs.path_places.put_round.Given as goal

abbrev pub invariant-loop-k : goal.invariant-loop-k
invariant-loop-k l = record {
  front : take (l.n + l.k) l.out ≡ take l.n l.fn.out ++ run_places l.first l.k l.at;
  len : length l.out ≡ length l.fn.out;
}
