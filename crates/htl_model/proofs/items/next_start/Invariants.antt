use Rattle.std.proofs.Common.{◌≡◌, ◌<◌, ℕ, ◌+◌, Some}
use Rattle.std.specs.Prelude.{slice_get}
use Rattle.htl_model.specs.declared.parts.Inv.{Inv}
use Rattle.htl_model.proofs.items.next_start.Given as goal

-- those so far are of the mode or of an earlier one
abbrev pub invariant-loop-k : goal.invariant-loop-k
invariant-loop-k l = (q : ℕ) (i : Inv) → q < l.k → slice_get l.t.invs q ≡ Some i → i.mode < l.mode + 1
