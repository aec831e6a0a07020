-- Steps along the offsets of an invocation.
use Rattle.std.specs.Prelude.{ℕ, min, List, ◌∷◌, Option, Some, None}
use Rattle.htl_model.specs.Tables.{least_or}

-- the lesser of what was met and a number
abbrev pub min_or : Option ℕ → ℕ → ℕ
min_or (Some x) y = min x y
min_or None y = y

-- the least of what was met and what is left, or `d` where there is neither
abbrev pub least_on : ℕ → Option ℕ → List ℕ → ℕ
least_on d None ys = least_or d ys
least_on d (Some x) ys = least_or d (x ∷ ys)
