use Rattle.std.proofs.Common.{◌≡◌, ◌++◌, length, map, take, drop}
use Rattle.htl_times.specs.PathPlaces.{round_modes}
use Rattle.htl_times.proofs.path_places.round_modes.Given as goal

abbrev pub invariant-loop-k : goal.invariant-loop-k
invariant-loop-k l = record {
  front : take l.k l.table ++ map (round_modes l.t) (drop l.k l.rounds) ≡ map (round_modes l.t) l.rounds;
  size : length l.table ≡ 2048;
}
