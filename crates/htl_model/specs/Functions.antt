-- What a function of the tables means: a value for its arguments.
use Rattle.std.specs.Prelude.{◌≡◌, ℕ, ◌+◌, ◌≤◌, max, Bool, true, false, cond, ◌&&◌, eqb, ltb, leb, List, [], ◌∷◌, ◌++◌, length, get_or, slice_get, map, Option, Some, None, ℤ, pos, negsuc, int_lt, int_le, int_rem}
use Rattle.std.specs.Int.{w64, int_wrapping_add, int_wrapping_sub, int_wrapping_mul, int_wrapping_div, int_wrapping_neg}
use Rattle.htl_base.specs.{declared.limits.TheConstants.MAX_INSTRUCTIONS, declared.limits.TheConstants.MAX_STACK, declared.Ty.Ty, declared.Ty.TheVariants.Int as IntTy, declared.Ty.TheVariants.Bool as BoolTy, declared.operator.UnOp.UnOp}
use Rattle.htl_base.specs.{declared.operator.UnOp.TheVariants.Neg, declared.operator.UnOp.TheVariants.Not, declared.operator.BinOp.BinOp}
use Rattle.htl_base.specs.declared.operator.BinOp.TheVariants.{Add, Sub, Mul, Div, Rem, Lt, Le, Gt, Ge, Eq, Ne, And, Or}
use Rattle.htl_model.specs.{declared.function.FInstr.FInstr, declared.function.Code.Code, declared.function.Expr.Expr}
use Rattle.htl_model.specs.declared.function.FInstr.TheVariants as I
use Rattle.htl_model.specs.declared.function.Expr.TheVariants as E

-- an expression, with the number of the token of each part
pub data Term : Type 0 where
  Number : (token : ℕ) (x : ℤ) → Term
  Truth : (token : ℕ) (x : Bool) → Term
  Arg : (token k : ℕ) → Term
  Unary : (token : ℕ) (op : UnOp) (e : Term) → Term
  Binary : (token : ℕ) (op : BinOp) (l r : Term) → Term
  Choose : (token : ℕ) (c a b : Term) → Term

-- the expression that a syntax tree in memory spells
abbrev pub term_of : Expr → Term
term_of (E.Int t x) = Number t x
term_of (E.Bool t x) = Truth t x
term_of (E.Arg t k) = Arg t k
term_of (E.Unary' t op p e) = Unary t op (term_of e)
term_of (E.Binary' t op p l q r) = Binary t op (term_of l) (term_of r)
term_of (E.Choose' t p c q a s b) = Choose t (term_of c) (term_of a) (term_of b)

abbrev pub of_test : Bool → ℤ
of_test true = pos 1
of_test false = pos 0

abbrev pub is_zero : ℤ → Bool
is_zero (pos n) = eqb n 0
is_zero (negsuc n) = false

abbrev pub same : ℤ → ℤ → Bool
same (pos a) (pos b) = eqb a b
same (negsuc a) (negsuc b) = eqb a b
same _ _ = false

abbrev pub negate : UnOp → ℤ → ℤ
negate Neg x = int_wrapping_neg w64 x
negate Not x = of_test (is_zero x)

abbrev pub combine : BinOp → ℤ → ℤ → ℤ
combine Add x y = int_wrapping_add w64 x y
combine Sub x y = int_wrapping_sub w64 x y
combine Mul x y = int_wrapping_mul w64 x y
combine Div x y = cond (is_zero y) (pos 0) (int_wrapping_div w64 x y)
combine Rem x y = cond (is_zero y) (pos 0) (int_rem x y)
combine Lt x y = of_test (int_lt x y)
combine Le x y = of_test (int_le x y)
combine Gt x y = of_test (int_lt y x)
combine Ge x y = of_test (int_le y x)
combine Eq x y = of_test (same x y)
combine Ne x y = of_test (is_zero (of_test (same x y)))
combine And x y = cond (is_zero x) (pos 0) y
combine Or x y = cond (is_zero x) y (pos 1)

-- the value of an expression
abbrev pub value : List ℤ → Term → ℤ
value args (Number t x) = x
value args (Truth t x) = of_test x
value args (Arg t k) = get_or args k (pos 0)
value args (Unary t op e) = negate op (value args e)
value args (Binary t op l r) = combine op (value args l) (value args r)
value args (Choose t c a b) = cond (is_zero (value args c)) (value args b) (value args a)

-- the values held at once while an expression is evaluated
abbrev pub held : Term → ℕ
held (Unary t op e) = held e
held (Binary t op l r) = max (held l) (1 + held r)
held (Choose t c a b) = max (held c) (max (1 + held a) (2 + held b))
held _ = 1

abbrev pub of_binary : BinOp → FInstr
of_binary Add = I.Add
of_binary Sub = I.Sub
of_binary Mul = I.Mul
of_binary Div = I.Div
of_binary Rem = I.Rem
of_binary Lt = I.Lt
of_binary Le = I.Le
of_binary Gt = I.Gt
of_binary Ge = I.Ge
of_binary Eq = I.Eq
of_binary Ne = I.Ne
of_binary And = I.And
of_binary Or = I.Or

abbrev pub of_unary : UnOp → FInstr
of_unary Neg = I.Neg
of_unary Not = I.Not

abbrev pub of_bool : Bool → ℕ
of_bool true = 1
of_bool false = 0

-- the postfix form of an expression, each instruction with the token of its part
abbrev pub spelled : Term → List (ℕ × FInstr)
spelled (Number t x) = (t, I.Int x) ∷ []
spelled (Truth t x) = (t, I.Bool (of_bool x)) ∷ []
spelled (Arg t k) = (t, I.Arg k) ∷ []
spelled (Unary t op e) = spelled e ++ (t, of_unary op) ∷ []
spelled (Binary t op l r) = spelled l ++ (spelled r ++ (t, of_binary op) ∷ [])
spelled (Choose t c a b) = spelled c ++ (spelled a ++ (spelled b ++ (t, I.Choose) ∷ []))

-- the postfix form of an expression
abbrev pub postfix : Term → List FInstr
postfix e = map (λ i. i.1) (spelled e)

abbrev pub fold_one : ℕ → UnOp → List Term → Option (List Term)
fold_one t op [] = None
fold_one t op (e ∷ below) = Some (Unary t op e ∷ below)

abbrev pub fold_two : ℕ → BinOp → List Term → Option (List Term)
fold_two t op (r ∷ l ∷ below) = Some (Binary t op l r ∷ below)
fold_two t op _ = None

abbrev pub fold_choose : ℕ → List Term → Option (List Term)
fold_choose t (b ∷ a ∷ c ∷ below) = Some (Choose t c a b ∷ below)
fold_choose t _ = None

-- one instruction, on the expressions that stand so far
abbrev pub stacked : ℕ → FInstr → List Term → Option (List Term)
stacked t (I.Int x) ts = Some (Number t x ∷ ts)
stacked t (I.Bool x) ts = Some (Truth t (ltb 0 x) ∷ ts)
stacked t (I.Arg k) ts = Some (Arg t k ∷ ts)
stacked t I.Neg ts = fold_one t Neg ts
stacked t I.Not ts = fold_one t Not ts
stacked t I.Add ts = fold_two t Add ts
stacked t I.Sub ts = fold_two t Sub ts
stacked t I.Mul ts = fold_two t Mul ts
stacked t I.Div ts = fold_two t Div ts
stacked t I.Rem ts = fold_two t Rem ts
stacked t I.Lt ts = fold_two t Lt ts
stacked t I.Le ts = fold_two t Le ts
stacked t I.Gt ts = fold_two t Gt ts
stacked t I.Ge ts = fold_two t Ge ts
stacked t I.Eq ts = fold_two t Eq ts
stacked t I.Ne ts = fold_two t Ne ts
stacked t I.And ts = fold_two t And ts
stacked t I.Or ts = fold_two t Or ts
stacked t I.Choose ts = fold_choose t ts

abbrev pub stack_of : List (ℕ × FInstr) → List Term → Option (List Term)
stack_of [] ts = Some ts
stack_of (i ∷ is) ts = elim (stacked i.0 i.1 ts) [ Some us ↦ stack_of is us | None ↦ None ]

abbrev pub only : Option (List Term) → Option Term
only (Some (e ∷ [])) = Some e
only _ = None

-- the expression of which a list of instructions is the postfix form, with every token 0
abbrev pub tree : List FInstr → Option Term
tree is = only (stack_of (map (λ i. (0, i)) is) [])

-- the types of an operator
abbrev pub type_one : UnOp → Option Ty → Option Ty
type_one Neg (Some IntTy) = Some IntTy
type_one Not (Some BoolTy) = Some BoolTy
type_one _ _ = None

abbrev pub both_int : Ty → Option Ty → Option Ty → Option Ty
both_int t (Some IntTy) (Some IntTy) = Some t
both_int t _ _ = None

abbrev pub both_bool : Option Ty → Option Ty → Option Ty
both_bool (Some BoolTy) (Some BoolTy) = Some BoolTy
both_bool _ _ = None

abbrev pub same_type : Option Ty → Option Ty → Option Ty
same_type (Some IntTy) (Some IntTy) = Some IntTy
same_type (Some BoolTy) (Some BoolTy) = Some BoolTy
same_type _ _ = None

abbrev pub as_bool : Option Ty → Option Ty
as_bool (Some t) = Some BoolTy
as_bool None = None

abbrev pub type_two : BinOp → Option Ty → Option Ty → Option Ty
type_two Lt l r = both_int BoolTy l r
type_two Le l r = both_int BoolTy l r
type_two Gt l r = both_int BoolTy l r
type_two Ge l r = both_int BoolTy l r
type_two Eq l r = as_bool (same_type l r)
type_two Ne l r = as_bool (same_type l r)
type_two And l r = both_bool l r
type_two Or l r = both_bool l r
type_two _ l r = both_int IntTy l r

abbrev pub type_choose : Option Ty → Option Ty → Option Ty → Option Ty
type_choose (Some BoolTy) a b = same_type a b
type_choose _ a b = None

-- the type of an expression, where its operators have operands of the right types
abbrev pub type_of : List Ty → Term → Option Ty
type_of args (Number t x) = Some IntTy
type_of args (Truth t x) = Some BoolTy
type_of args (Arg t k) = slice_get args k
type_of args (Unary t op e) = type_one op (type_of args e)
type_of args (Binary t op l r) = type_two op (type_of args l) (type_of args r)
type_of args (Choose t c a b) = type_choose (type_of args c) (type_of args a) (type_of args b)

abbrev pub bools_fit : List FInstr → Bool
bools_fit [] = true
bools_fit (I.Bool x ∷ is) = leb x 1 && bools_fit is
bools_fit (_ ∷ is) = bools_fit is

-- code that the function machine takes
pub record Verified (code : Code) : Type 0 where
  pub tree_of : Term
  pub is_tree : tree code.instrs ≡ Some tree_of
  pub typed : type_of code.args tree_of ≡ Some code.want
  pub bools : bools_fit code.instrs ≡ true
  pub some_code : 1 ≤ length code.instrs
  pub short : length code.instrs ≤ MAX_INSTRUCTIONS
  pub fits : held tree_of ≤ MAX_STACK

-- the value that a tree gives, or 0 where there is none
abbrev pub value_or : List ℤ → Option Term → ℤ
value_or args (Some e) = value args e
value_or args None = pos 0
