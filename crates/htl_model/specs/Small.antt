-- Functions of a size that can be compiled.
use Rattle.std.specs.Prelude.{◌≡◌, ◌≤◌, ◌<◌, ℕ, ◌+◌, length, slice_get, Some}
use Rattle.htl_base.specs.declared.limits.TheConstants.{MAX_INSTRUCTIONS, MAX_ARGUMENTS}
use Rattle.htl_model.specs.{Functions.Term, Functions.Arg, Functions.Unary, Functions.Binary, Functions.Choose, FunctionTypes.FunctionType, FunctionTypes.function_types, Tables.Tables, Tables.Fun, Tables.Formula, Tables.Compiled}

-- how many literals, arguments and operators an expression has
abbrev pub nodes : Term → ℕ
nodes (Unary token op e) = nodes e + 1
nodes (Binary token op l r) = nodes l + nodes r + 1
nodes (Choose token c a b) = nodes c + nodes a + nodes b + 1
nodes _ = 1

-- each argument is one of so many
abbrev pub ArgumentsBelow : ℕ → Term → Type 0
ArgumentsBelow n (Arg token k) = k < n
ArgumentsBelow n (Unary token op e) = ArgumentsBelow n e
ArgumentsBelow n (Binary token op l r) = ArgumentsBelow n l × ArgumentsBelow n r
ArgumentsBelow n (Choose token c a b) = ArgumentsBelow n c × ArgumentsBelow n a × ArgumentsBelow n b
ArgumentsBelow n _ = Unit {0}

-- an expression of at most 512 nodes, with at most 256 arguments that are there
abbrev pub IsSmallFunction : FunctionType → Fun → Type 0
IsSmallFunction f (Formula first e) = (nodes e ≤ MAX_INSTRUCTIONS) × (length f.args ≤ MAX_ARGUMENTS) × ArgumentsBelow (length f.args) e
IsSmallFunction f (Compiled code) = ⊥

-- each function of the tables is one
abbrev pub AreSmall : Tables → Type 0
AreSmall t = (k : ℕ) (f : FunctionType) (g : Fun) → slice_get (function_types t) k ≡ Some f → slice_get t.functions k ≡ Some g → IsSmallFunction f g
