use Rattle.std.proofs.Common.{◌≡◌, ◌≤◌, ◌+◌, ◌*◌, drop}
use Rattle.htl_model.specs.Frames.{most_positions}
use Rattle.htl_model.proofs.frame_limits.most_positions.Given as goal

abbrev pub invariant-loop-k : goal.invariant-loop-k
invariant-loop-k l = record {
  most : l.n + most_positions l.t (drop l.k l.rounds) ≡ most_positions l.t l.rounds;
  few : l.n ≤ l.k * 2048;
}
