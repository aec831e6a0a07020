-- Tables whose functions are compiled.
use Rattle.std.specs.Prelude.{◌≡◌, ◌≤◌, ◌<◌, ℕ, List, [], length, slice_get, Option, Some, None}
use Rattle.htl_base.specs.declared.Ty.TheVariants.{Int as IntTy}
use Rattle.htl_func.specs.Compiled.{IsFunction}
use Rattle.htl_model.specs.{Broken.KeepsLimits, Exchanged.with_functions, FunctionTypes.FunctionType, FunctionTypes.function_types, FunctionTypes.IsCodeOf, Functions.postfix, Lists.list_to, Ranges.AreInRange, Small.AreSmall}
use Rattle.htl_model.specs.Tables.{Tables, Fun, Formula, Compiled}

-- ---- the code of a function

-- an expression becomes its postfix form, with the types of its place
abbrev pub code_of : FunctionType → Fun → Fun
code_of f (Formula first e) = Compiled (record { args = f.args; want = f.want; instrs = postfix e })
code_of f (Compiled code) = Compiled code

-- in the place of a function that isn't there
abbrev pub no_code : Fun
no_code = Compiled (record { args = []; want = IntTy; instrs = [] })

abbrev pub code_by : Option FunctionType → Option Fun → Fun
code_by (Some f) (Some g) = code_of f g
code_by (Some f) None = no_code
code_by None g = no_code

abbrev pub code_at : Tables → ℕ → Fun
code_at t k = code_by (slice_get (function_types t) k) (slice_get t.functions k)

abbrev pub codes : Tables → List Fun
codes t = list_to (code_at t) (length t.functions)

-- the tables with the code of each function in its place
abbrev pub coded : Tables → Tables
coded t = with_functions t (codes t)

-- ---- what can be compiled

-- an expression has the types of its place and holds at most 64 values
abbrev pub IsTyped : FunctionType → Fun → Type 0
IsTyped f (Formula first e) = IsFunction f.args f.want e
IsTyped f (Compiled code) = IsCodeOf f code

abbrev pub IsTypedAt : Tables → ℕ → Type 0
IsTypedAt t k = (f : FunctionType) (g : Fun) → slice_get (function_types t) k ≡ Some f → slice_get t.functions k ≡ Some g → IsTyped f g

-- so do the functions from one place on, below another
abbrev pub TypedBetween : Tables → ℕ → ℕ → Type 0
TypedBetween t from to = (k : ℕ) → from ≤ k → k < to → IsTypedAt t k

-- so does each function
abbrev pub AreTyped : Tables → Type 0
AreTyped t = (k : ℕ) → IsTypedAt t k

-- tables in range that keep the limits, whose functions are expressions of a size that can be compiled
pub record AreSourceTables (t : Tables) : Type 0 where
  pub ranges : AreInRange t
  pub limits : KeepsLimits t
  pub small : AreSmall t

-- and all of which are typed
pub record CanCode (t : Tables) : Type 0 where
  pub tables : AreSourceTables t
  pub typed : AreTyped t
