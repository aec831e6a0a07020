-- Which items stand in lists that are made of lists.
use Rattle.std.proofs.Common.{◌≡◌, ◌⊎◌, ℕ, zero, suc, ◌+◌, Bool, true, false, cond, List, [], ◌∷◌, ◌++◌, length, Some, refl, sym, ◌∙◌, ap, subst, arith, inl, inr}
use Rattle.htl_refine.proofs.Words.{slice_get, flat_map, none-some, places_from, get_front, into_back}

-- ---- joined lists

pub of_joined : {A : Type 0} (xs ys : List A) (q : ℕ) (a : A) → slice_get (xs ++ ys) q ≡ Some a → (slice_get xs q ≡ Some a) ⊎ ((r : ℕ) × (slice_get ys r ≡ Some a))
of_joined [] ys q a e = inr (q, e)
of_joined (x ∷ xs) ys zero a e = inl e
of_joined (x ∷ xs) ys (suc q) a e = of_joined xs ys q a e

pub of_flat : {X A : Type 0} (f : X → List A) (xs : List X) (q : ℕ) (a : A) → slice_get (flat_map f xs) q ≡ Some a
    → (j : ℕ) × (x : X) × (slice_get xs j ≡ Some x) × (r : ℕ) × (slice_get (f x) r ≡ Some a)
of_flat f [] q a e = absurd (none-some a e)
of_flat f (x ∷ xs) q a e = elim (of_joined (f x) (flat_map f xs) q a e) [
  | inl h ↦ (0, x, refl, q, h)
  | inr h ↦ let m = of_flat f xs h.0 a h.1 in (suc m.0, m.1, m.2, m.3, m.4)
]

pub in_flat : {X A : Type 0} (f : X → List A) (xs : List X) (j r : ℕ) (x : X) (a : A) → slice_get xs j ≡ Some x → slice_get (f x) r ≡ Some a
    → (q : ℕ) × (slice_get (flat_map f xs) q ≡ Some a)
in_flat f [] j r x a at e = absurd (none-some x at)
in_flat f (y ∷ ys) zero r x a at e =
    let same : y ≡ x = cc in
    (r, get_front (f y) (flat_map f ys) r a (subst (λ z. slice_get (f z) r ≡ Some a) (sym same) e))
in_flat f (y ∷ ys) (suc j) r x a at e =
    let m = in_flat f ys j r x a at e in
    (length (f y) + m.0, into_back (f y) (flat_map f ys) m.0 a m.1)

-- ---- places that pass a test

abbrev ArePlaces : {A : Type 0} → (A → Bool) → ℕ → List A → Type 0
ArePlaces {A} test k xs = (r p : ℕ) → slice_get (places_from test k xs) r ≡ Some p → (j : ℕ) × (x : A) × (p ≡ k + j) × (slice_get xs j ≡ Some x) × (test x ≡ true)

pub of_places : {A : Type 0} (test : A → Bool) (k : ℕ) (xs : List A) (r p : ℕ) → slice_get (places_from test k xs) r ≡ Some p
    → (j : ℕ) × (x : A) × (p ≡ k + j) × (slice_get xs j ≡ Some x) × (test x ≡ true)
of_places {A} test k [] r p e = absurd (none-some p e)
of_places {A} test k (x ∷ xs) r p e = by (test x) refl (of_places test (suc k) xs) r e
  where
    by : (b : Bool) → test x ≡ b → ArePlaces test (suc k) xs → (i : ℕ) → slice_get (cond b (k ∷ places_from test (suc k) xs) (places_from test (suc k) xs)) i ≡ Some p
        → (j : ℕ) × (y : A) × (p ≡ k + j) × (slice_get (x ∷ xs) j ≡ Some y) × (test y ≡ true)
    by true is later zero f = let same : k ≡ p = cc in (0, x, omega arith, refl, is)
    by true is later (suc i) f = let m = later i p f in (suc m.0, m.1, omega (arith, m.2), m.3, m.4)
    by false is later i f = let m = later i p f in (suc m.0, m.1, omega (arith, m.2), m.3, m.4)

pub in_places : {A : Type 0} (test : A → Bool) (k : ℕ) (xs : List A) (j : ℕ) (x : A) → slice_get xs j ≡ Some x → test x ≡ true
    → (r : ℕ) × (slice_get (places_from test k xs) r ≡ Some (k + j))
in_places test k [] j x at pass = absurd (none-some x at)
in_places test k (y ∷ ys) zero x at pass = grind arith
in_places test k (y ∷ ys) (suc j) x at pass =
    let m = in_places test (suc k) ys j x at pass in
    by (test y) m.0 (m.1 ∙ ap (λ (n : ℕ). Some n) (omega arith))
  where
    by : (b : Bool) (i : ℕ) → slice_get (places_from test (suc k) ys) i ≡ Some (k + suc j)
        → (r : ℕ) × (slice_get (cond b (k ∷ places_from test (suc k) ys) (places_from test (suc k) ys)) r ≡ Some (k + suc j))
    by true i f = (suc i, f)
    by false i f = (i, f)

-- the same, where the places are counted from 0
pub at_place : {A : Type 0} (test : A → Bool) (xs : List A) (j : ℕ) (x : A) → slice_get xs j ≡ Some x → test x ≡ true → (r : ℕ) × (slice_get (places_from test 0 xs) r ≡ Some j)
at_place test xs j x at pass = let zero_add : 0 + j ≡ j = omega arith in subst (λ n. (r : ℕ) × (slice_get (places_from test 0 xs) r ≡ Some n)) zero_add (in_places test 0 xs j x at pass)
