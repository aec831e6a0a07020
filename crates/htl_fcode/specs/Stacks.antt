-- The stack of the function machine, its top first: what each instruction makes of the values on it, and of
-- their types.
use Rattle.std.specs.Prelude.{cond, ltb, leb, List, [], ◌∷◌, length, slice_get, Option, Some, None, ℤ, pos}
use Rattle.htl_base.specs.{declared.Ty.Ty, declared.Ty.TheVariants.Int as IntTy, declared.Ty.TheVariants.Bool as BoolTy}
use Rattle.htl_base.specs.declared.operator.UnOp.TheVariants as un
use Rattle.htl_base.specs.declared.operator.BinOp.TheVariants as bin
use Rattle.htl_model.specs.{declared.function.FInstr.FInstr, Functions.negate, Functions.combine, Functions.is_zero, Functions.type_one, Functions.type_two, Functions.type_choose}
use Rattle.htl_model.specs.declared.function.FInstr.TheVariants as I
use Rattle.htl_fcode.specs.declared.operation.Operation.{Operation}
use Rattle.htl_fcode.specs.declared.operation.Operation.TheVariants.{Number, Truth, Argument, Unary, Binary, Choose}

-- the kind of an instruction
abbrev pub operation_of : FInstr → Operation
operation_of (I.Int x) = Number x
operation_of (I.Bool x) = Truth x
operation_of (I.Arg k) = Argument k
operation_of I.Neg = Unary un.Neg
operation_of I.Not = Unary un.Not
operation_of I.Add = Binary bin.Add
operation_of I.Sub = Binary bin.Sub
operation_of I.Mul = Binary bin.Mul
operation_of I.Div = Binary bin.Div
operation_of I.Rem = Binary bin.Rem
operation_of I.Lt = Binary bin.Lt
operation_of I.Le = Binary bin.Le
operation_of I.Gt = Binary bin.Gt
operation_of I.Ge = Binary bin.Ge
operation_of I.Eq = Binary bin.Eq
operation_of I.Ne = Binary bin.Ne
operation_of I.And = Binary bin.And
operation_of I.Or = Binary bin.Or
operation_of I.Choose = Choose

-- one more on the stack, which has room for 64
abbrev pub put : {A : Type 0} → A → List A → Option (List A)
put x xs = cond (ltb (length xs) 64) (Some (x ∷ xs)) None

-- what is there, put on the stack
abbrev pub put_some : {A : Type 0} → Option A → List A → Option (List A)
put_some (Some x) xs = put x xs
put_some None xs = None

-- the values after an operation; None where it lacks an operand, an argument or room
abbrev pub values_after : List ℤ → Operation → List ℤ → Option (List ℤ)
values_after args (Number x) vs = put x vs
values_after args (Truth x) vs = put (pos x) vs
values_after args (Argument k) vs = put_some (slice_get args k) vs
values_after args (Unary op) (x ∷ vs) = Some (negate op x ∷ vs)
values_after args (Binary op) (y ∷ x ∷ vs) = Some (combine op x y ∷ vs)
values_after args Choose (b ∷ a ∷ c ∷ vs) = Some (cond (is_zero c) b a ∷ vs)
values_after args _ _ = None

-- the values after a list of instructions
abbrev pub values_run : List ℤ → List FInstr → List ℤ → Option (List ℤ)
values_run args [] vs = Some vs
values_run args (i ∷ is) vs = elim (values_after args (operation_of i) vs) [ Some us ↦ values_run args is us | None ↦ None ]

-- a result in place of its operands
abbrev pub in_place : Option Ty → List Ty → Option (List Ty)
in_place (Some t) ts = Some (t ∷ ts)
in_place None ts = None

-- the types after an operation; None where it lacks an operand, an argument or room, its operands have wrong
-- types, or it puts a bool that is neither 0 nor 1
abbrev pub types_after : List Ty → Operation → List Ty → Option (List Ty)
types_after args (Number x) ts = put IntTy ts
types_after args (Truth x) ts = cond (leb x 1) (put BoolTy ts) None
types_after args (Argument k) ts = put_some (slice_get args k) ts
types_after args (Unary op) (t ∷ ts) = in_place (type_one op (Some t)) ts
types_after args (Binary op) (r ∷ l ∷ ts) = in_place (type_two op (Some l) (Some r)) ts
types_after args Choose (b ∷ a ∷ c ∷ ts) = in_place (type_choose (Some c) (Some a) (Some b)) ts
types_after args _ _ = None

-- the types after a list of instructions
abbrev pub types_run : List Ty → List FInstr → List Ty → Option (List Ty)
types_run args [] ts = Some ts
types_run args (i ∷ is) ts = elim (types_after args (operation_of i) ts) [ Some us ↦ types_run args is us | None ↦ None ]
