use Rattle.std.proofs.Common.{◌≡◌, ℕ, take}
use Rattle.htl_walk.proofs.Words.{has_bit, begins_with}
use Rattle.htl_walk.proofs.placed.mates.Given as goal

abbrev pub invariant-loop-q : goal.invariant-loop-q
invariant-loop-q l = (r : ℕ) → has_bit l.row r ≡ begins_with l.at (take l.q l.places) r
