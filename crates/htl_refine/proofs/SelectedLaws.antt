-- The test of a selection is right.
use Rattle.std.proofs.Common.{◌≡◌, ℕ, zero, suc, ◌+◌, true, false, eqb, List, [], ◌∷◌, length, Option, Some, None, refl, sym, ◌∙◌, ap, subst, arith}
use Rattle.htl_refine.proofs.Words.{slice_get, Decides, Decides-and, Decides-not, Mode, Module, Tables, mode_module, entry, is_at, Runs, is_running, IsModeOf, is_mode_of, IsActive, is_active, IsEntry, is_entry, are_entries, IsSelection, is_selection, and_parts, eq-eqb, eqb-true}

pub at_number : (o : Option ℕ) (n : ℕ) → is_at o n ≡ true → o ≡ Some n
at_number (Some x) n h = ap (λ (y : ℕ). Some y) (eqb-true x n h)
at_number None n h = cc

pub number_at : (o : Option ℕ) (n : ℕ) → o ≡ Some n → is_at o n ≡ true
number_at (Some x) n h = let same : x ≡ n = cc in eq-eqb x n same
number_at None n h = cc

pub running_is : (t : Tables) (modes : List (Option ℕ)) (m : ℕ) → Decides (is_running t modes m) (Runs t modes m)
running_is t modes m = (at_number (entry modes (mode_module t m)) m, number_at (entry modes (mode_module t m)) m)

pub mode_of_is : (t : Tables) (u m : ℕ) → Decides (is_mode_of t u m) (IsModeOf t u m)
mode_of_is t u m = grind (arith, eqb-true, eq-eqb)

pub active_is : (t : Tables) (modes : List (Option ℕ)) (p : Option ℕ) → Decides (is_active t modes p) (IsActive t modes p)
active_is t modes None = (λ h. tt, λ h. refl)
active_is t modes (Some p) = running_is t modes p

pub entry_is : (t : Tables) (modes : List (Option ℕ)) (u : ℕ) (p m : Option ℕ) → Decides (is_entry t modes u p m) (IsEntry t modes u p m)
entry_is t modes u p (Some m) = Decides-and (is_mode_of t u m) (is_active t modes p) (mode_of_is t u m) (active_is t modes p)
entry_is t modes u p None = Decides-not (is_active t modes p) (active_is t modes p)

entries_at : (t : Tables) (modes : List (Option ℕ)) (u : ℕ) (xs : List Module) → are_entries t modes u xs ≡ true → (j : ℕ) (x : Module) → slice_get xs j ≡ Some x
    → is_entry t modes (u + j) x.parent (entry modes (u + j)) ≡ true
entries_at t modes u [] h j x at = cc
entries_at t modes u (y ∷ ys) h zero x at = grind (arith, and_parts)
entries_at t modes u (y ∷ ys) h (suc j) x at =
    subst (λ n. is_entry t modes n x.parent (entry modes n) ≡ true) (omega arith) (entries_at t modes (suc u) ys (and_parts _ _ h).1 j x at)

entries_all : (t : Tables) (modes : List (Option ℕ)) (u : ℕ) (xs : List Module)
    → ((j : ℕ) (x : Module) → slice_get xs j ≡ Some x → is_entry t modes (u + j) x.parent (entry modes (u + j)) ≡ true) → are_entries t modes u xs ≡ true
entries_all t modes u [] h = refl
entries_all t modes u (y ∷ ys) h =
    let zero_add : u + 0 ≡ u = omega arith in
    let here : is_entry t modes u y.parent (entry modes u) ≡ true = subst (λ n. is_entry t modes n y.parent (entry modes n) ≡ true) zero_add (h 0 y refl) in
    rw here (entries_all t modes (suc u) ys (λ j x at. let next : u + suc j ≡ suc u + j = omega arith in subst (λ n. is_entry t modes n x.parent (entry modes n) ≡ true) next (h (suc j) x at)))

pub selection_is : (t : Tables) (modes : List (Option ℕ)) → Decides (is_selection t modes) (IsSelection t modes)
selection_is t modes = (
  λ h.
      let parts = and_parts (eqb (length modes) (length t.modules)) (are_entries t modes 0 t.modules) h in
      record {
        same = eqb-true (length modes) (length t.modules) parts.0;
        each = λ u x at.
            (entry_is t modes u x.parent (entry modes u)).0
            (subst (λ n. is_entry t modes n x.parent (entry modes n) ≡ true) (omega arith) (entries_at t modes 0 t.modules parts.1 u x at));
      },
  λ s.
      rw (eq-eqb (length modes) (length t.modules) s.same)
      (entries_all t modes 0 t.modules (λ u x at.
      subst (λ n. is_entry t modes n x.parent (entry modes n) ≡ true) (omega arith) ((entry_is t modes u x.parent (entry modes u)).1 (s.each u x at)))),
)
