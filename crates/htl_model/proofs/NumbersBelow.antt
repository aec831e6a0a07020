-- The numbers below a bound that pass a test: which they are, that each is there once, and how many they are.
use Rattle.std.proofs.Common.{◌≡◌, ◌<◌, ◌≤◌, ◌⊎◌, ℕ, zero, suc, ◌+◌, Bool, true, false, cond, eqb, [], ◌∷◌, length, refl, sym, ◌∙◌, ap, subst, arith, inl, inr}
use Rattle.htl_model.proofs.Words.{list_any, IsDistinct, AllByRecursion, nat_tests, IsDistinct-from_apart, IsDistinct-cons, numbers_below, count_below, eq-eqb, or_cases, or_left, or_right, cases_below, true_not_false}

pub has_number : (p : ℕ → Bool) (n k : ℕ) → list_any (eqb k) (numbers_below p n) ≡ true → (k < n) × (p k ≡ true)
has_number p zero k h = cc
has_number p (suc n) k h = by (p n) refl (λ e. has_number p n k e) h
  where
    by : (b : Bool) → p n ≡ b → (list_any (eqb k) (numbers_below p n) ≡ true → (k < n) × (p k ≡ true))
        → list_any (eqb k) (cond b (n ∷ numbers_below p n) (numbers_below p n)) ≡ true → (k < suc n) × (p k ≡ true)
    by true is later h = grind (arith, or_cases)
    by false is later h = let r = later h in (omega (arith, r.0), r.1)

pub number_has : (p : ℕ → Bool) (n k : ℕ) → k < n → p k ≡ true → list_any (eqb k) (numbers_below p n) ≡ true
number_has p zero k less h = absurd (omega arith)
number_has p (suc n) k less h = by (p n) refl (λ below. number_has p n k below h)
  where
    by : (b : Bool) → p n ≡ b → (k < n → list_any (eqb k) (numbers_below p n) ≡ true) → list_any (eqb k) (cond b (n ∷ numbers_below p n) (numbers_below p n)) ≡ true
    by true is later = elim (cases_below k n less) [ inl below ↦ or_right (eqb k n) _ (later below) | inr same ↦ or_left (eqb k n) _ (eq-eqb k n same) ]
    by false is later = grind (arith, cases_below)

apart : (p : ℕ → Bool) (m n : ℕ) → n ≤ m → AllByRecursion (λ y. eqb m y ≡ false) (numbers_below p n)
apart p m zero h = tt
apart p m (suc n) h = grind (arith, apart p m n (omega arith))

pub numbers_once : (p : ℕ → Bool) (n : ℕ) → IsDistinct eqb (numbers_below p n)
numbers_once p zero = IsDistinct-from_apart eqb [] (λ i j d a b. absurd (omega arith))
numbers_once p (suc n) = grind (arith, apart, IsDistinct-cons, numbers_once p n)

-- ---- how many

pub length_numbers : (p : ℕ → Bool) (n : ℕ) → length (numbers_below p n) ≡ count_below p n
length_numbers p zero = refl
length_numbers p (suc n) = grind (arith, length_numbers p n)

count_most : (p : ℕ → Bool) (n : ℕ) → count_below p n ≤ n
count_most p zero = omega arith
count_most p (suc n) = grind (arith, count_most p n)

pub count_less : (p : ℕ → Bool) (n q : ℕ) → q < n → p q ≡ false → count_below p n < n
count_less p zero q h e = absurd (omega arith)
count_less p (suc n) q h e = by (p n) refl (λ less. count_less p n q less e) (cases_below q n h)
  where
    by : (b : Bool) → p n ≡ b → (q < n → count_below p n < n) → (q < n) ⊎ (q ≡ n) → count_below p n + cond b 1 0 < suc n
    by true is rest (inl less) = omega (arith, rest less)
    by false is rest (inl less) = omega (arith, rest less)
    by false is rest (inr same) = omega (arith, count_most p n)
    by true is rest (inr same) = absurd (true_not_false (p n) is (sym (ap p same) ∙ e))

count_mono : (p r : ℕ → Bool) (n : ℕ) → ((x : ℕ) → p x ≡ true → r x ≡ true) → count_below p n ≤ count_below r n
count_mono p r zero h = omega arith
count_mono p r (suc n) h = grind (arith, count_mono p r n h)

pub count_strict : (p r : ℕ → Bool) (n q : ℕ) → ((x : ℕ) → p x ≡ true → r x ≡ true) → q < n → p q ≡ false → r q ≡ true → count_below p n < count_below r n
count_strict p r zero q h less e f = absurd (omega arith)
count_strict p r (suc n) q h less e f = by (p n) (r n) refl refl (λ k. count_strict p r n q h k e f) (cases_below q n less)
  where
    by : (a b : Bool) → p n ≡ a → r n ≡ b → (q < n → count_below p n < count_below r n) → (q < n) ⊎ (q ≡ n) → count_below p n + cond a 1 0 < count_below r n + cond b 1 0
    by true true i j rest (inl k) = omega (arith, rest k)
    by true false i j rest (inl k) = absurd (true_not_false (r n) (h n i) j)
    by false true i j rest (inl k) = omega (arith, rest k)
    by false false i j rest (inl k) = omega (arith, rest k)
    by true b i j rest (inr same) = absurd (true_not_false (p n) i (sym (ap p same) ∙ e))
    by false true i j rest (inr same) = omega (arith, count_mono p r n h)
    by false false i j rest (inr same) = absurd (true_not_false (r n) (sym (ap r same) ∙ f) j)
