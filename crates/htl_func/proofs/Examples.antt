-- Small expressions, worked by hand.
use Rattle.std.proofs.Common.{◌≡◌, true, [], ◌∷◌, Some, None, pos, negsuc, refl}
use Rattle.htl_base.specs.{declared.Ty.TheVariants.Int as IntTy, declared.Ty.TheVariants.Bool as BoolTy, declared.operator.UnOp.TheVariants.Neg, declared.operator.UnOp.TheVariants.Not}
use Rattle.htl_base.specs.declared.operator.BinOp.TheVariants.{Add, Div, Rem, Lt}
use Rattle.htl_model.specs.declared.function.FInstr.TheVariants as I
use Rattle.htl_model.specs.Functions.{Term, Number, Truth, Arg, Unary, Binary, Choose, value, held, postfix, tree}
use Rattle.htl_func.specs.Expressions.{first_ill, ill_typed}

-- x < 2, whose first token is 4
comparison : Term
comparison = Binary 5 Lt (Arg 4 0) (Number 6 (pos 2))

-- it is no int, which shows at its first token
not_an_int : ill_typed 4 (IntTy ∷ []) IntTy comparison ≡ Some 4
unfolding comparison
not_an_int = refl

-- over a bool it shows at the operator
not_of_ints : ill_typed 4 (BoolTy ∷ []) IntTy comparison ≡ Some 5
unfolding comparison
not_of_ints = refl

a_bool : ill_typed 4 (IntTy ∷ []) BoolTy comparison ≡ None
unfolding comparison
a_bool = refl

-- (-true) + (!2): both operands and the sum are ill-typed, the left operand comes first
both_sides : first_ill [] (Binary 3 Add (Unary 1 Neg (Truth 2 true)) (Unary 5 Not (Number 6 (pos 2)))) ≡ Some 1
both_sides = refl

-- if(x < 2, 1, 1 + (1 + 1)) holds 2 + 3 values
five_held : held (Choose 0 comparison (Number 7 (pos 1)) (Binary 9 Add (Number 8 (pos 1)) (Binary 12 Add (Number 11 (pos 1)) (Number 13 (pos 1))))) ≡ 5
unfolding comparison
five_held = refl

postfix_of : postfix comparison ≡ I.Arg 0 ∷ I.Int (pos 2) ∷ I.Lt ∷ []
unfolding comparison
postfix_of = refl

tree_of : tree (postfix comparison) ≡ Some (Binary 0 Lt (Arg 0 0) (Number 0 (pos 2)))
unfolding comparison
tree_of = refl

-- -7 / 2 is -3 and -7 % 2 is -1
quotient : value [] (Binary 0 Div (Number 0 (negsuc 6)) (Number 0 (pos 2))) ≡ negsuc 2
quotient = refl

remainder : value [] (Binary 0 Rem (Number 0 (negsuc 6)) (Number 0 (pos 2))) ≡ negsuc 0
remainder = refl

-- the least number by -1 is itself
least_quotient : value [] (Binary 0 Div (Number 0 (negsuc 9223372036854775807)) (Number 0 (negsuc 0))) ≡ negsuc 9223372036854775807
least_quotient = refl
