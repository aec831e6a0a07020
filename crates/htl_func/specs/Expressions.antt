-- Expressions: their first ill-typed operator, and what the compiler makes of them.
use Rattle.std.specs.Prelude.{ℕ, List, Option, Some, None}
use Rattle.htl_base.specs.{declared.Ty.Ty, declared.Ty.TheVariants.Int as IntTy, declared.Ty.TheVariants.Bool as BoolTy}
use Rattle.htl_model.specs.Functions.{Term, Number, Truth, Arg, Unary, Binary, Choose, type_of, type_one, type_two, type_choose}

-- an expression with every token number 0
abbrev pub without_tokens : Term → Term
without_tokens (Number token x) = Number 0 x
without_tokens (Truth token x) = Truth 0 x
without_tokens (Arg token k) = Arg 0 k
without_tokens (Unary token op e) = Unary 0 op (without_tokens e)
without_tokens (Binary token op l r) = Binary 0 op (without_tokens l) (without_tokens r)
without_tokens (Choose token c a b) = Choose 0 (without_tokens c) (without_tokens a) (without_tokens b)

-- the first where there is one, else the second
abbrev pub or_else : Option ℕ → Option ℕ → Option ℕ
or_else (Some token) later = Some token
or_else None later = later

-- an operator without a type is at fault
abbrev pub at_fault : ℕ → Option Ty → Option ℕ
at_fault token (Some type) = None
at_fault token None = Some token

-- the token of the first operator whose operands have wrong types: operands from left to right, then their operator
abbrev pub first_ill : List Ty → Term → Option ℕ
first_ill args (Unary token op e) = or_else (first_ill args e) (at_fault token (type_one op (type_of args e)))
first_ill args (Binary token op l r) =
    or_else (first_ill args l) (or_else (first_ill args r) (at_fault token (type_two op (type_of args l) (type_of args r))))
first_ill args (Choose token c a b) =
    or_else (first_ill args c)
    (or_else (first_ill args a)
    (or_else (first_ill args b) (at_fault token (type_choose (type_of args c) (type_of args a) (type_of args b)))))
first_ill args _ = None

-- the first token of an expression whose type isn't the one that is wanted
abbrev pub unless_type : Ty → ℕ → Option Ty → Option ℕ
unless_type IntTy first (Some IntTy) = None
unless_type BoolTy first (Some BoolTy) = None
unless_type want first _ = Some first

-- where a function is ill-typed: at its first ill-typed operator, or where the whole hasn't the type that is
-- wanted at its first token
abbrev pub ill_typed : ℕ → List Ty → Ty → Term → Option ℕ
ill_typed first args want e = or_else (first_ill args e) (unless_type want first (type_of args e))
