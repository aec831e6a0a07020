use Rattle.std.proofs.Common.{◌≡◌, ◌*◌, ◌-◌, ◌^◌, ◌≤◌, min, drop}
use Rattle.htl_model.specs.Frames.{choices}
use Rattle.htl_model.proofs.rounds.round_choices.Given as goal

abbrev pub invariant-loop-k : goal.invariant-loop-k
invariant-loop-k l = record {
  product : min (l.n * choices l.t (drop l.k l.rounds)) (2 ^ 32 - 1) ≡ min (choices l.t l.rounds) (2 ^ 32 - 1);
  few : l.n ≤ 2 ^ 32 - 1;
}
