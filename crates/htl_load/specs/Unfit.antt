-- The first function that isn't verified code of the types of its place.
use Rattle.std.specs.Prelude.{◌<◌, ◌≤◌, ℕ, length}
use Rattle.htl_model.specs.{Tables.Tables, FunctionTypes.FitsPlace}

-- the functions from one place on, below another, fit theirs
abbrev pub FitBetween : Tables → ℕ → ℕ → Type 0
FitBetween t from to = (k : ℕ) → from ≤ k → k < to → FitsPlace t k

-- the first function, from a place on, that doesn't fit its place
pub record IsUnfitFrom (t : Tables) (from k : ℕ) : Type 0 where
  pub behind : from ≤ k
  pub within : k < length t.functions
  pub here : FitsPlace t k → ⊥
  pub first : FitBetween t from k

abbrev pub IsFirstUnfit : Tables → ℕ → Type 0
IsFirstUnfit t k = IsUnfitFrom t 0 k
