use Rattle.std.proofs.Common.{◌≡◌, ◌+◌, ◌<◌, ◌++◌, length, take, drop}
use Rattle.htl_model.specs.Frames.{choices, places_in, rounds, path_places}
use Rattle.htl_times.proofs.path_places.put_path.Given as goal

abbrev pub invariant-loop-k : goal.invariant-loop-k
invariant-loop-k l = record {
  behind : l.behind ≡ choices l.t (drop l.k (rounds l.t));
  some : 0 < l.behind;
  front : take l.n l.out ++ places_in l.t l.path (drop l.k (rounds l.t)) ≡ path_places l.t l.path;
  count : l.n + length (places_in l.t l.path (drop l.k (rounds l.t))) ≡ length (path_places l.t l.path);
  len : length l.out ≡ length l.fn.out;
}
