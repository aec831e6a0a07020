use Rattle.std.proofs.Common.{◌≡◌, ◌*◌, ◌-◌, ◌^◌, ◌≤◌, min, drop}
use Rattle.htl_model.specs.Frames.{choices, rounds_of}
use Rattle.htl_model.proofs.rounds.start_choices.Given as goal

abbrev pub invariant-loop-k : goal.invariant-loop-k
invariant-loop-k l = record {
  product : min (l.n * choices l.t (rounds_of l.t l.at (drop l.k l.roots))) (2 ^ 32 - 1) ≡ min (choices l.t (rounds_of l.t l.at l.roots)) (2 ^ 32 - 1);
  few : l.n ≤ 2 ^ 32 - 1;
}
