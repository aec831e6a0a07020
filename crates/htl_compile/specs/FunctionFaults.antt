-- The first function that isn't compiled.
use Rattle.std.specs.Prelude.{◌≡◌, ◌≤◌, ◌<◌, ℕ, Some, slice_get}
use Rattle.htl_base.specs.declared.limits.TheConstants.{MAX_STACK}
use Rattle.htl_compile.specs.Coded.{TypedBetween}
use Rattle.htl_func.specs.{declared.compiler.FnFault.FnFault, Expressions.ill_typed}
use Rattle.htl_func.specs.declared.compiler.FnFault.TheVariants as fn_fault
use Rattle.htl_model.specs.{FunctionTypes.FunctionType, FunctionTypes.function_types, Functions.type_of, Functions.held, Tables.Tables, Tables.Fun, Tables.Formula, Tables.Compiled}

-- the cause of a function's fault; want of memory is free
abbrev pub IsFaultOf : FunctionType → Fun → FnFault → Type 0
IsFaultOf f (Formula first e) (fn_fault.IllTyped token) = ill_typed first f.args f.want e ≡ Some token
IsFaultOf f (Formula first e) (fn_fault.Deep token) = (token ≡ first) × (type_of f.args e ≡ Some f.want) × (MAX_STACK < held e)
IsFaultOf f (Formula first e) fn_fault.Memory = Unit {0}
IsFaultOf f (Compiled code) fn_fault.Memory = Unit {0}
IsFaultOf f (Compiled code) _ = ⊥

-- function k has this fault
pub record IsFaultAt (t : Tables) (k : ℕ) (e : FnFault) : Type 0 where
  pub type : FunctionType
  pub function : Fun
  pub typed : slice_get (function_types t) k ≡ Some type
  pub there : slice_get t.functions k ≡ Some function
  pub fault : IsFaultOf type function e

-- a function has this fault, and those before it, from a place on, are typed
pub record IsFirstFaultFrom (t : Tables) (from : ℕ) (e : FnFault) : Type 0 where
  pub place : ℕ
  pub behind : from ≤ place
  pub here : IsFaultAt t place e
  pub first : TypedBetween t from place

-- the first function that isn't typed, or holds too many values, has this fault
abbrev pub IsFirstFault : Tables → FnFault → Type 0
IsFirstFault t e = IsFirstFaultFrom t 0 e
