use Rattle.std.proofs.Common.{◌≡◌, ◌<◌, ◌+◌, ℕ, true, false, Some}
use Rattle.htl_form.proofs.Words.{slice_get, list_any, Inv, is_concrete, is_shared_end}
use Rattle.htl_form.proofs.owners.writes_shared.Given as goal

abbrev pub invariant-loop-q : goal.invariant-loop-q
invariant-loop-q l =
    (r : ℕ) (y : Inv) → r < l.q → slice_get l.t.invs (l.base + r) ≡ Some y → is_concrete l.t y ≡ true → list_any (is_shared_end l.owners l.«module») y.writes ≡ false
