use Rattle.std.proofs.Common.{◌≡◌, ◌+◌, ◌<◌, ◌++◌, length, take, drop}
use Rattle.htl_model.specs.Frames.{choices, places_in}
use Rattle.htl_walk.proofs.extents.put_path.Given as goal

abbrev pub invariant-loop-k : goal.invariant-loop-k
invariant-loop-k l = record {
  behind : l.behind ≡ choices l.t (drop l.k l.rounds);
  some : 0 < l.behind;
  front : take l.n l.out ++ places_in l.t l.path (drop l.k l.rounds) ≡ places_in l.t l.path l.rounds;
  count : l.n + length (places_in l.t l.path (drop l.k l.rounds)) ≡ length (places_in l.t l.path l.rounds);
  len : length l.out ≡ length l.initial.out;
}
