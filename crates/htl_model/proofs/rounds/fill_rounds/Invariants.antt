use Rattle.std.proofs.Common.{◌≡◌, ◌≤◌, ◌*◌, ◌++◌, length, take, drop}
use Rattle.htl_model.proofs.Words.{flat_map, rounds_at}
use Rattle.htl_model.proofs.rounds.fill_rounds.Given as goal

abbrev pub invariant-loop-j : goal.invariant-loop-j
invariant-loop-j l = record {
  front : take l.n l.out ++ flat_map (rounds_at l.t) (drop l.j l.starts) ≡ flat_map (rounds_at l.t) l.starts;
  few : l.n ≤ l.j * 64;
  len : length l.out ≡ length l.initial.out;
}
