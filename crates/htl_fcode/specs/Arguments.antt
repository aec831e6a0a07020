-- What a function may be called with.
use Rattle.std.specs.Prelude.{◌≡◌, ℕ, List, length, get_or, slice_get, Some, ℤ, pos}
use Rattle.htl_base.specs.declared.Ty.{Ty}
use Rattle.htl_model.specs.Ranges.{FitsType}

-- the values are as many as the types, and each is of its type
pub record AreArguments (types : List Ty) (values : List ℤ) : Type 0 where
  pub count : length values ≡ length types
  pub fit : (k : ℕ) (type : Ty) → slice_get types k ≡ Some type → FitsType type (get_or values k (pos 0))
