use Rattle.std.proofs.Common.{◌≡◌, ℕ, ◌<◌, true}
use Rattle.htl_model.specs.Bits.{has_bit}
use Rattle.htl_edf.proofs.turns.all_below.Given as goal

abbrev pub invariant-loop-q : goal.invariant-loop-q
invariant-loop-q l = (p : ℕ) → p < l.q → has_bit l.row p ≡ true
