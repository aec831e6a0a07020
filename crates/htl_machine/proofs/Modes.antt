-- The modes of the modules, as the E machine answers them and as the meaning has them.
use Rattle.std.proofs.Common.{◌≡◌, ℕ, zero, suc, ◌+◌, ◌<◌, true, List, [], ◌∷◌, ◌++◌, length, take, get_or, map, set, Option, Some, None, option_map, refl, sym, ap, ap₂, ◌∙◌, arith, inl, inr}
use Rattle.htl_machine.proofs.Words.{ext_get_or, take_more, take_more_set, length-set, Event, Stay, AreInRange, eqb-true, cases_lt, state, stay_of, mode_of, same_mode, Tables, ECode, Calendar, list_at, Between, modes_at, states_are_selections}
use Rattle.htl_machine.proofs.{Agreeing.modes_switched, Settling.list_is}

-- one place more is noted
pub one_noted : (xs ys zs : List (Option ℕ)) (k : ℕ) (o : Option ℕ) → k < length ys → length xs ≡ length ys → take k xs ≡ take k ys → o ≡ list_at ys k → zs ≡ set xs k o
    → (take (k + 1) zs ≡ take (k + 1) ys) × (length zs ≡ length ys)
one_noted xs ys zs k o less same front is noted = (
  ap (take (k + 1)) noted ∙ take_more_set xs k o (omega (arith, less, same))
      ∙ ap₂ (λ (ps : List (Option ℕ)) (p : Option ℕ). ps ++ p ∷ []) front (is ∙ sym (list_is ys k))
      ∙ sym (take_more ys k None less),
  ap length noted ∙ length-set xs k o ∙ same,
)

same_is : (a b : Option ℕ) → same_mode a b ≡ true → a ≡ b
same_is None None e = refl
same_is (Some a) (Some b) e = ap Some (eqb-true a b e)
same_is _ _ e = absurd (let z : ⊥ = cc in z)

-- one place more is the same
pub one_same : (xs ys : List (Option ℕ)) (k : ℕ) (a b : Option ℕ) → ((i : ℕ) → i < k → list_at xs i ≡ list_at ys i) → a ≡ list_at xs k → b ≡ list_at ys k → same_mode a b ≡ true
    → (i : ℕ) → i < k + 1 → list_at xs i ≡ list_at ys i
one_same xs ys k a b before first second same i less = elim (cases_lt i k) [
  | inl l ↦ before i l
  | inr l ↦ let at : i ≡ k = omega (arith, less, l) in ap (list_at xs) at ∙ sym first ∙ same_is a b same ∙ second ∙ sym (ap (list_at ys) at)
]

-- all are
pub all_same : (xs ys : List (Option ℕ)) → length xs ≡ length ys → ((i : ℕ) → i < length xs → list_at xs i ≡ list_at ys i) → xs ≡ ys
all_same xs ys same each = ext_get_or None xs ys same (λ k h. list_is xs k ∙ each k h ∙ sym (list_is ys k))

mode_there : (ys : List (Option Stay)) (k : ℕ) → mode_of (stay_of ys k) ≡ get_or (map (λ (o : Option Stay). option_map (λ y. y.mode) o) ys) k None
mode_there [] k = refl
mode_there (None ∷ ys) zero = refl
mode_there (Some y ∷ ys) zero = refl
mode_there (y ∷ ys) (suc k) = mode_there ys k

-- once the switch phase is done the E machine's modes are those of the instant
pub modes_are : (t : Tables) (code : ECode) (es : List Event) (now : ℕ) (c : Calendar) → AreInRange t → Between t code es now 2 c (length t.modules) → c.modes ≡ modes_at t es now
modes_are t code es now c range b =
    ext_get_or None c.modes (modes_at t es now) (b.sized.modes ∙ sym (states_are_selections t range es now).same)
    (λ k h. list_is c.modes k ∙ modes_switched t code es now c range b k ∙ mode_there (state t es now).stays k)
