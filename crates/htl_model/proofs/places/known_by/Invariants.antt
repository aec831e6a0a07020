use Rattle.std.proofs.Common.{◌≡◌, ◌+◌, ◌≤◌, drop}
use Rattle.htl_model.specs.Frames.{known_by}
use Rattle.htl_model.proofs.places.known_by.Given as goal

abbrev pub invariant-loop-k : goal.invariant-loop-k
invariant-loop-k l = record {
  known : l.n + known_by l.at (drop l.k l.places) ≡ known_by l.at l.places;
  few : l.n ≤ l.k;
}
