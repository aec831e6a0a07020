-- An invocation that reads a port is fed by the one that writes it.
use Rattle.std.proofs.Common.{arith, ◌≡◌, ℕ, zero, suc, Bool, true, eqb, List, [], ◌∷◌, slice_get, Option, Some, refl, ap, ◌∙◌}
use Rattle.htl_runs.proofs.Words.{list_any, eq-eqb, and_from, or_left, or_right, Inv, End, Tables, is_read_from, feeds_at, feeds, is_port, not_some, same_Some}
use Rattle.htl_model.specs.declared.parts.End.TheVariants as E
use Rattle.htl_runs.proofs.values.JobOutputs.{IsWriter}

any_there : (f : End → Bool) (ends : List End) (k : ℕ) (e : End) → slice_get ends k ≡ Some e → f e ≡ true → list_any f ends ≡ true
any_there f [] k e at h = not_some e at
any_there f (d ∷ ends) zero e at h = or_left (f d) (list_any f ends) (ap f (same_Some _ _ at) ∙ h)
any_there f (d ∷ ends) (suc k) e at h = or_right (f d) (list_any f ends) (any_there f ends k e at h)

-- an invocation that reads a port is fed by its writer
pub fed : (t : Tables) (i w k a o : ℕ) (x : Inv) → slice_get t.invs i ≡ Some x → slice_get x.reads k ≡ Some (E.Port a) → (d : IsWriter t x.mode a w o) → feeds t w i ≡ true
fed t i w k a o x known e d = grind (arith, and_from, eq-eqb, any_there)
