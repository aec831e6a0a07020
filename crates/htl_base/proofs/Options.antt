-- Plain facts of options.
use Rattle.std.proofs.Common.{None, Option, Some, sym, ◌∙◌, ◌≡◌}

pub not_both : {A : Type 0} (o : Option A) (a : A) → o ≡ None → o ≡ Some a → ⊥
not_both o a n s = let z : None ≡ Some a = sym n ∙ s in cc
