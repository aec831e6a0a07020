-- The list of a function's values.
use Rattle.std.proofs.Common.{◌≡◌, ℕ, zero, suc, ◌<◌, List, [], ◌∷◌, length, get_or, refl, sym, ap, ◌∙◌, arith, ◌++◌, inl, inr, length-append}
use Rattle.htl_model.proofs.Words.{list_to, cases_below}

pub length-list_to : {A : Type 0} (f : ℕ → A) (n : ℕ) → length (list_to f n) ≡ n
length-list_to f zero = refl
length-list_to f (suc n) = length-append (list_to f n) _ ∙ omega (arith, length-list_to f n)

get_end : {A : Type 0} (xs : List A) (y d : A) (k : ℕ) → k ≡ length xs → get_or (xs ++ y ∷ []) k d ≡ y
get_end [] y d zero h = refl
get_end (x ∷ xs) y d (suc k) h = get_end xs y d k (omega arith)
get_end _ y d _ h = absurd (omega arith)

get_front : {A : Type 0} (xs ys : List A) (d : A) (k : ℕ) → k < length xs → get_or (xs ++ ys) k d ≡ get_or xs k d
get_front [] ys d k h = absurd (omega arith)
get_front (x ∷ xs) ys d zero h = refl
get_front (x ∷ xs) ys d (suc k) h = get_front xs ys d k (omega arith)

-- the value at a place
pub get_list_to : {A : Type 0} (f : ℕ → A) (n k : ℕ) (d : A) → k < n → get_or (list_to f n) k d ≡ f k
get_list_to f zero k d h = absurd (omega arith)
get_list_to f (suc n) k d h =
    elim (cases_below k n h) [
      | inl q ↦ get_front (list_to f n) _ d k (omega (arith, length-list_to f n)) ∙ get_list_to f n k d q
      | inr e ↦ get_end (list_to f n) (f n) d k (e ∙ sym (length-list_to f n)) ∙ ap f (sym e)
    ]

-- equal functions, equal lists
pub list_same : {A : Type 0} (f g : ℕ → A) (n : ℕ) → ((j : ℕ) → j < n → f j ≡ g j) → list_to f n ≡ list_to g n
list_same f g zero h = refl
list_same f g (suc n) h = ap (λ xs. xs ++ f n ∷ []) (list_same f g n (λ j l. h j (omega arith))) ∙ ap (λ x. list_to g n ++ x ∷ []) (h n (omega arith))
