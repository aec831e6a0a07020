use Rattle.std.proofs.Common.{◌≡◌, ◌+◌, drop, take}
use Rattle.htl_model.specs.Frames.{most_positions, rounds}
use Rattle.htl_top.proofs.positions.most_positions.Given as goal

abbrev pub invariant-loop-k : goal.invariant-loop-k
invariant-loop-k l = l.n + most_positions l.t (drop l.k (take l.f.round_count l.f.rounds)) ≡ most_positions l.t (rounds l.t)
