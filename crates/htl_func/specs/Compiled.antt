-- What a compiled function is.
use Rattle.std.specs.Prelude.{◌≡◌, ◌≤◌, List, Some, ℤ}
use Rattle.htl_base.specs.{declared.limits.TheConstants.MAX_STACK, declared.Ty.Ty}
use Rattle.htl_model.specs.{declared.function.Code.Code, Functions.Term, Functions.type_of, Functions.held, Functions.value, Functions.postfix, Functions.tree, Functions.Verified, Tables.fun, Tables.Compiled}
use Rattle.htl_func.specs.Expressions.{without_tokens}

-- an expression that is a function: of the type that is wanted, and holding at most 64 values
pub record IsFunction (args : List Ty) (want : Ty) (e : Term) : Type 0 where
  pub typed : type_of args e ≡ Some want
  pub fits : held e ≤ MAX_STACK

-- code is the postfix form of an expression, and means it
pub record IsCompiled (types : List Ty) (result : Ty) (e : Term) (code : Code) : Type 0 where
  pub function : IsFunction types result e
  pub args : code.args ≡ types
  pub want : code.want ≡ result
  pub instrs : code.instrs ≡ postfix e
  pub is_tree : tree code.instrs ≡ Some (without_tokens e)
  pub verified : Verified code
  pub value : (values : List ℤ) → fun (Compiled code) values ≡ value values e

-- the function of an expression's postfix form is the function of the expression
abbrev pub CodeMeansExpression : Type 0
CodeMeansExpression = (code : Code) (e : Term) (values : List ℤ) → code.instrs ≡ postfix e → fun (Compiled code) values ≡ value values e
