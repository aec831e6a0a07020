use Rattle.std.proofs.Common.{◌≡◌, ◌≤◌, ◌+◌, ◌++◌, length, take, drop}
use Rattle.htl_model.specs.Frames.{rounds_of}
use Rattle.htl_model.proofs.rounds.put_rounds.Given as goal

abbrev pub invariant-loop-k : goal.invariant-loop-k
invariant-loop-k l = record {
  front : take l.end l.out ++ rounds_of l.t l.at (drop l.k l.roots) ≡ take l.n l.initial.out ++ rounds_of l.t l.at l.roots;
  few : l.end ≤ l.n + l.k;
  len : length l.out ≡ length l.initial.out;
}
