-- Lists whose items differ, and the tests that find it.
use Rattle.std.proofs.Common.{◌≡◌, ℕ, zero, suc, Bool, true, false, not, ◌&&◌, ◌||◌, eqb, eq-eqb, List, [], ◌∷◌, slice_get, Some, eqb-true, refl, sym, ◌∙◌, ap, arith}
use Rattle.htl_model.proofs.Words.{list_any, bytes_eq, nat_tests, bytes_eq-Decides, AreApart, are_different, are_different_owned, same_owned, are_different_pairs, same_pair, are_different_numbers, and_parts, not-true, or_second}

pub apart_rest : {A : Type 0} (y : A) (xs : List A) → AreApart (y ∷ xs) → AreApart xs
apart_rest y xs apart j k x less p q = apart (suc j) (suc k) x (omega (arith, less)) p q

pub apart_first : {A : Type 0} (y : A) (xs : List A) → AreApart (y ∷ xs) → (k : ℕ) → slice_get xs k ≡ Some y → ⊥
apart_first y xs apart k e = apart 0 (suc k) y (omega arith) refl e

-- a test that tells items apart finds none
pub none_same : {A : Type 0} (same : A → A → Bool) → ((a b : A) → same a b ≡ true → a ≡ b) → (y : A) (xs : List A) → ((k : ℕ) → slice_get xs k ≡ Some y → ⊥) → list_any (same y) xs ≡ false
none_same same tells y [] none = refl
none_same same tells y (x ∷ xs) none = by (same y x) refl (none_same same tells y xs (λ k e. none (suc k) e))
  where
    by : (b : Bool) → same y x ≡ b → list_any (same y) xs ≡ false → list_any (same y) (x ∷ xs) ≡ false
    by true is later = absurd (none 0 (ap Some (sym (tells y x is))))
    by false is later = grind (arith, nat_tests)

pub same_owned_is : (a b : ℕ × List ℕ) → same_owned a b ≡ true → a ≡ b
same_owned_is a b h = grind (arith, and_parts, eqb-true, bytes_eq-Decides)

pub same_pair_is : (a b : ℕ × ℕ) → same_pair a b ≡ true → a ≡ b
same_pair_is a b h = grind (arith, and_parts, eqb-true)

pub different : (xs : List (List ℕ)) → AreApart xs → are_different xs ≡ true
different [] apart = refl
different (x ∷ xs) apart =
    ap (λ b. not b && are_different xs) (none_same bytes_eq (λ a b. (bytes_eq-Decides a b).0) x xs (apart_first x xs apart)) ∙ different xs (apart_rest x xs apart)

pub different_owned : (xs : List (ℕ × List ℕ)) → AreApart xs → are_different_owned xs ≡ true
different_owned [] apart = refl
different_owned (x ∷ xs) apart =
    ap (λ b. not b && are_different_owned xs) (none_same same_owned same_owned_is x xs (apart_first x xs apart)) ∙ different_owned xs (apart_rest x xs apart)

pub different_pairs : (xs : List (ℕ × ℕ)) → AreApart xs → are_different_pairs xs ≡ true
different_pairs [] apart = refl
different_pairs (x ∷ xs) apart =
    ap (λ b. not b && are_different_pairs xs) (none_same same_pair same_pair_is x xs (apart_first x xs apart)) ∙ different_pairs xs (apart_rest x xs apart)

pub different_numbers : (xs : List ℕ) → AreApart xs → are_different_numbers xs ≡ true
different_numbers [] apart = refl
different_numbers (x ∷ xs) apart =
    ap (λ b. not b && are_different_numbers xs) (none_same eqb eqb-true x xs (apart_first x xs apart)) ∙ different_numbers xs (apart_rest x xs apart)

-- ---- and back: where a test finds nothing, the items differ

apart_none : {A : Type 0} → AreApart {A = A} []
apart_none j k x less p q = absurd cc

apart_more : {A : Type 0} (y : A) (xs : List A) → ((k : ℕ) → slice_get xs k ≡ Some y → ⊥) → AreApart xs → AreApart (y ∷ xs)
apart_more y xs none apart j zero x less p q = absurd (omega arith)
apart_more y xs none apart zero (suc k) x less p q = none k (q ∙ sym p)
apart_more y xs none apart (suc j) (suc k) x less p q = apart j k x (omega arith) p q

none_again : {A : Type 0} (same : A → A → Bool) → ((a : A) → same a a ≡ true) → (y : A) (xs : List A) → list_any (same y) xs ≡ false → (k : ℕ) → slice_get xs k ≡ Some y → ⊥
none_again same itself y [] h k e = absurd cc
none_again same itself y (x ∷ xs) h zero e = grind arith
none_again same itself y (x ∷ xs) h (suc k) e = none_again same itself y xs (or_second (same y x) (list_any (same y) xs) h) k e

bytes_itself : (n : List ℕ) → bytes_eq n n ≡ true
bytes_itself n = (bytes_eq-Decides n n).1 refl

owned_itself : (a : ℕ × List ℕ) → same_owned a a ≡ true
owned_itself a = ap (λ b. b && bytes_eq a.1 a.1) (eq-eqb a.0 a.0 refl) ∙ bytes_itself a.1

pair_itself : (a : ℕ × ℕ) → same_pair a a ≡ true
pair_itself a = ap (λ b. b && eqb a.1 a.1) (eq-eqb a.0 a.0 refl) ∙ eq-eqb a.1 a.1 refl

pub apart_names : (xs : List (List ℕ)) → are_different xs ≡ true → AreApart xs
apart_names [] h = apart_none
apart_names (x ∷ xs) h =
    let p = and_parts (not (list_any (bytes_eq x) xs)) (are_different xs) h in
    apart_more x xs (none_again bytes_eq bytes_itself x xs (not-true (list_any (bytes_eq x) xs) p.0)) (apart_names xs p.1)

pub apart_owned : (xs : List (ℕ × List ℕ)) → are_different_owned xs ≡ true → AreApart xs
apart_owned [] h = apart_none
apart_owned (x ∷ xs) h =
    let p = and_parts (not (list_any (same_owned x) xs)) (are_different_owned xs) h in
    apart_more x xs (none_again same_owned owned_itself x xs (not-true (list_any (same_owned x) xs) p.0)) (apart_owned xs p.1)

pub apart_pairs : (xs : List (ℕ × ℕ)) → are_different_pairs xs ≡ true → AreApart xs
apart_pairs [] h = apart_none
apart_pairs (x ∷ xs) h =
    let p = and_parts (not (list_any (same_pair x) xs)) (are_different_pairs xs) h in
    apart_more x xs (none_again same_pair pair_itself x xs (not-true (list_any (same_pair x) xs) p.0)) (apart_pairs xs p.1)

pub apart_numbers : (xs : List ℕ) → are_different_numbers xs ≡ true → AreApart xs
apart_numbers [] h = apart_none
apart_numbers (x ∷ xs) h =
    let p = and_parts (not (list_any (eqb x) xs)) (are_different_numbers xs) h in
    apart_more x xs (none_again eqb (λ a. eq-eqb a a refl) x xs (not-true (list_any (eqb x) xs) p.0)) (apart_numbers xs p.1)
