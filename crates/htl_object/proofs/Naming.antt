-- Names that are looked up in place of the items that have them.
use Rattle.std.proofs.Common.{◌≡◌, Bool, ◌||◌, not, List, [], ◌∷◌, Result, refl, ap, subst, map, ◌∙◌}
use Rattle.htl_object.proofs.Words.{IfOk, list_any}

any_mapped : {A B : Type 0} (p : B → Bool) (f : A → B) (xs : List A) → list_any p (map f xs) ≡ list_any (λ x. p (f x)) xs
any_mapped p f [] = refl
any_mapped p f (x ∷ xs) = ap (λ b. p (f x) || b) (any_mapped p f xs)

pub differs_mapped : {A B E : Type 0} (p : B → Bool) (f : A → B) (xs : List A) (held : List B) (result : Result Bool E) → held ≡ map f xs
    → IfOk result (λ differs. differs ≡ not (list_any p held)) → IfOk result (λ differs. differs ≡ not (list_any (λ x. p (f x)) xs))
differs_mapped p f xs held result same h = subst (λ (b : Bool). IfOk result (λ differs. differs ≡ not b)) (ap (list_any p) same ∙ any_mapped p f xs) h
