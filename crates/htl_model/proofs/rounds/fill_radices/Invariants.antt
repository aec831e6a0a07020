use Rattle.std.proofs.Common.{◌≡◌, ℕ, length, take, map, drop, ◌++◌}
use Rattle.htl_model.specs.Frames.{choices, rounds_at}
use Rattle.htl_model.proofs.rounds.fill_radices.Given as goal

abbrev pub invariant-loop-j : goal.invariant-loop-j
invariant-loop-j l = record {
  front : take l.j l.out ++ map (λ (a : ℕ). choices l.t (rounds_at l.t a)) (drop l.j l.starts) ≡ map (λ (a : ℕ). choices l.t (rounds_at l.t a)) l.starts;
  len : length l.out ≡ length l.initial.out;
}
