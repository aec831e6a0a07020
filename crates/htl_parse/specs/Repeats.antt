-- Items that stand one after another.
use Rattle.std.specs.Prelude.{Bool, false, ◌≡◌, ◌<◌, List, [], ◌∷◌, ◌++◌, length, IfOk}
use Rattle.htl_text.specs.Placed.{Placed}
use Rattle.htl_parse.specs.Reading.{Reader}

-- An item leaves less; several items, as they are seen, are seen one by one.
pub record CanList {S X : Type 0} (plain : S → X) (plains : List S → List X) (item : Reader X) : Type 0 where
  pub less : (ts : List Placed) → IfOk (item ts) (λ x. length x.1 < length ts)
  pub none : plains [] ≡ []
  pub more : (xs : List S) (x : S) → plains (xs ++ x ∷ []) ≡ plains xs ++ plain x ∷ []

-- Items can be listed, and none begins where nothing is left.
pub record CanRepeat {S X : Type 0} (plain : S → X) (plains : List S → List X) (begins : List Placed → Bool) (item : Reader X) : Type 0 where
  pub items : CanList plain plains item
  pub nothing : begins [] ≡ false
