-- Where a module is, by where the modules are.
use Rattle.std.proofs.Common.{◌≡◌, ℕ, zero, suc, ◌<◌, true, false, eqb, List, [], ◌∷◌, ◌++◌, length, slice_get, Option, Some, None, ℤ, refl, sym, ap, ◌∙◌, arith, inl, inr, length-append}
use Rattle.htl_model.proofs.Words.{Tables, Mode, Stay, mode_module, stay_of, stays_to, next_stay_at, runs, within_front, cases_below, eqb-true}

pub length-stays_to : (t : Tables) (v : List ℤ) (now : ℕ) (old : List (Option Stay)) (k : ℕ) → length (stays_to t v now old k) ≡ k
length-stays_to t v now old zero = refl
length-stays_to t v now old (suc k) = grind (arith, length-append, length-stays_to t v now old k)

get_end : {A : Type 0} (xs : List A) (y : A) (k : ℕ) → k ≡ length xs → slice_get (xs ++ y ∷ []) k ≡ Some y
get_end [] y zero h = refl
get_end (x ∷ xs) y (suc k) h = get_end xs y k (omega arith)
get_end _ y _ h = absurd (omega arith)

opened : Option (Option Stay) → Option Stay
opened o = elim o [ Some x ↦ x | None ↦ None ]

-- the stay of module k is that which the modules below it give
pub stay_at : (t : Tables) (v : List ℤ) (now : ℕ) (old : List (Option Stay)) (n k : ℕ) → k < n →
    stay_of (stays_to t v now old n) k ≡ next_stay_at t v now (stays_to t v now old k) k (stay_of old k)
unfolding opened
stay_at t v now old zero k h = absurd (omega arith)
stay_at t v now old (suc n) k h =
    elim (cases_below k n h) [
      | inl q ↦ ap opened (within_front (stays_to t v now old n) _ k (omega (arith, length-stays_to t v now old n))) ∙ stay_at t v now old n k q
      | inr e ↦
          ap opened (get_end (stays_to t v now old n) _ k (e ∙ sym (length-stays_to t v now old n)))
          ∙ ap (λ m. next_stay_at t v now (stays_to t v now old m) m (stay_of old m)) (sym e)
    ]

pub module_is : (t : Tables) (m : ℕ) (x : Mode) → slice_get t.modes m ≡ Some x → mode_module t m ≡ x.«module»
module_is t m x e = ap (λ (o : Option Mode). elim o [ Some y ↦ y.«module» | None ↦ 0 ]) e

-- a mode that runs is that of its module's stay
pub runs_is : (t : Tables) (stays : List (Option Stay)) (m : ℕ) → runs t stays m ≡ true → (y : Stay) × (stay_of stays (mode_module t m) ≡ Some y) × (y.mode ≡ m)
runs_is t stays m e = grind (arith, eqb-true)
