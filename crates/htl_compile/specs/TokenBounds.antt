-- Functions whose tokens are tokens of a source.
use Rattle.std.specs.Prelude.{◌≡◌, ◌<◌, ℕ, Some, slice_get}
use Rattle.htl_model.specs.{Functions.Term, Functions.Unary, Functions.Binary, Functions.Choose, Tables.Tables, Tables.Fun, Tables.Formula, Tables.Compiled}

-- the tokens of an expression's operators are among so many
abbrev pub AreOperatorsBelow : ℕ → Term → Type 0
AreOperatorsBelow n (Unary token op e) = (token < n) × AreOperatorsBelow n e
AreOperatorsBelow n (Binary token op l r) = (token < n) × (AreOperatorsBelow n l × AreOperatorsBelow n r)
AreOperatorsBelow n (Choose token c a b) = (token < n) × (AreOperatorsBelow n c × (AreOperatorsBelow n a × AreOperatorsBelow n b))
AreOperatorsBelow n _ = Unit {0}

-- and its first token
abbrev pub IsFunctionBelow : ℕ → Fun → Type 0
IsFunctionBelow n (Formula first e) = (first < n) × AreOperatorsBelow n e
IsFunctionBelow n (Compiled code) = Unit {0}

-- those of each function are
abbrev pub AreFunctionsBelow : ℕ → Tables → Type 0
AreFunctionsBelow n t = (k : ℕ) (g : Fun) → slice_get t.functions k ≡ Some g → IsFunctionBelow n g
