-- What a test of a form rule finds: what there is, and what there ought to be.
use Rattle.std.specs.Prelude.{ℕ, Bool, cond, Option, Some, None}

abbrev pub Found : Type 0
Found = Option (ℕ × ℕ)

-- nothing where it holds
abbrev pub unless : Bool → ℕ → ℕ → Found
unless holds have need = cond holds None (Some (have, need))
