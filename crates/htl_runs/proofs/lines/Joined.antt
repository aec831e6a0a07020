-- Items of lists joined.
use Rattle.std.proofs.Common.{◌≡◌, ℕ, zero, suc, List, [], ◌∷◌, ◌++◌, map, refl, sym, ap, ap₂, ◌∙◌, append_assoc}
use Rattle.htl_runs.proofs.Words.{joined, up_to}

pub joined-append : {A B : Type 0} (f : A → List B) (xs ys : List A) → joined f (xs ++ ys) ≡ joined f xs ++ joined f ys
joined-append f [] ys = refl
joined-append f (x ∷ xs) ys = ap (λ z. f x ++ z) (joined-append f xs ys) ∙ sym (append_assoc (f x) (joined f xs) (joined f ys))

pub joined-up_to : {B C : Type 0} (f : B → List C) (g : ℕ → List B) (n : ℕ) → joined f (up_to g n) ≡ up_to (λ k. joined f (g k)) n
joined-up_to f g zero = refl
joined-up_to f g (suc n) = joined-append f (up_to g n) (g n) ∙ ap (λ ys. ys ++ joined f (g n)) (joined-up_to f g n)

pub joined-map : {A B C : Type 0} (f : B → List C) (g : A → B) (xs : List A) → joined f (map g xs) ≡ joined (λ x. f (g x)) xs
joined-map f g [] = refl
joined-map f g (x ∷ xs) = ap (λ ys. f (g x) ++ ys) (joined-map f g xs)

-- of lists that are mapped
pub joined-maps : {A B C D : Type 0} (f : C → List D) (g : A → B → C) (h : A → List B) (xs : List A) → joined f (joined (λ x. map (g x) (h x)) xs) ≡ joined (λ x. joined (λ y. f (g x y)) (h x)) xs
joined-maps f g h [] = refl
joined-maps f g h (x ∷ xs) = joined-append f (map (g x) (h x)) (joined (λ y. map (g y) (h y)) xs) ∙ ap₂ (λ ys zs. ys ++ zs) (joined-map f (g x) (h x)) (joined-maps f g h xs)
