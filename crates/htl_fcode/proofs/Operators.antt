-- The types and the values of operators.
use Rattle.std.proofs.Common.{◌≡◌, Bool, true, false, cond, List, Option, Some, None, ℤ, pos, refl, inl, inr}
use Rattle.htl_base.specs.{declared.Ty.Ty, declared.Ty.TheVariants.Int as IntTy, declared.Ty.TheVariants.Bool as BoolTy, declared.operator.UnOp.UnOp, declared.operator.UnOp.TheVariants.Neg, declared.operator.UnOp.TheVariants.Not}
use Rattle.htl_base.specs.declared.operator.BinOp.{BinOp}
use Rattle.htl_base.specs.declared.operator.BinOp.TheVariants.{Add, Sub, Mul, Div, Rem, Lt, Le, Gt, Ge, Eq, Ne, And, Or}
use Rattle.htl_model.specs.Functions.{Term, Number, Truth, Arg, Unary, Binary, Choose, value, type_of, type_one, type_two, type_choose, both_int, both_bool, same_type, as_bool, of_test, is_zero, negate, combine}
use Rattle.htl_model.specs.Ranges.{FitsType}
use Rattle.htl_fcode.specs.Arguments.{AreArguments}

-- ---- an operator that has a type has typed operands

-- there is a type
pub record IsTyped (o : Option Ty) : Type 0 where
  pub type : Ty
  pub is : o ≡ Some type

pub IsTyped-type_one : (op : UnOp) (e : Option Ty) (t : Ty) → type_one op e ≡ Some t → IsTyped e
IsTyped-type_one Neg None t h = cc
IsTyped-type_one Not None t h = cc
IsTyped-type_one op (Some y) t h = record { type = y; is = refl }

pub record AreTyped (l r : Option Ty) : Type 0 where
  pub left : IsTyped l
  pub right : IsTyped r

AreTyped-both_int : (t : Ty) (l r : Option Ty) (u : Ty) → both_int t l r ≡ Some u → AreTyped l r
AreTyped-both_int t None r u h = cc
AreTyped-both_int t (Some BoolTy) r u h = cc
AreTyped-both_int t (Some IntTy) None u h = cc
AreTyped-both_int t (Some IntTy) (Some y) u h = record { left = record { type = IntTy; is = refl }; right = record { type = y; is = refl } }

AreTyped-both_bool : (l r : Option Ty) (u : Ty) → both_bool l r ≡ Some u → AreTyped l r
AreTyped-both_bool None r u h = cc
AreTyped-both_bool (Some IntTy) r u h = cc
AreTyped-both_bool (Some BoolTy) None u h = cc
AreTyped-both_bool (Some BoolTy) (Some y) u h = record { left = record { type = BoolTy; is = refl }; right = record { type = y; is = refl } }

pub AreTyped-same_type : (l r : Option Ty) (u : Ty) → same_type l r ≡ Some u → AreTyped l r
AreTyped-same_type None r u h = cc
AreTyped-same_type (Some IntTy) None u h = cc
AreTyped-same_type (Some BoolTy) None u h = cc
AreTyped-same_type (Some x) (Some y) u h = record { left = record { type = x; is = refl }; right = record { type = y; is = refl } }

IsTyped-as_bool : (o : Option Ty) (u : Ty) → as_bool o ≡ Some u → IsTyped o
IsTyped-as_bool None u h = cc
IsTyped-as_bool (Some t) u h = record { type = t; is = refl }

AreTyped-as_bool : (l r : Option Ty) (u : Ty) → as_bool (same_type l r) ≡ Some u → AreTyped l r
AreTyped-as_bool l r u h = let s = IsTyped-as_bool (same_type l r) u h in AreTyped-same_type l r s.type s.is

pub AreTyped-type_two : (op : BinOp) (l r : Option Ty) (t : Ty) → type_two op l r ≡ Some t → AreTyped l r
AreTyped-type_two Lt l r t h = AreTyped-both_int BoolTy l r t h
AreTyped-type_two Le l r t h = AreTyped-both_int BoolTy l r t h
AreTyped-type_two Gt l r t h = AreTyped-both_int BoolTy l r t h
AreTyped-type_two Ge l r t h = AreTyped-both_int BoolTy l r t h
AreTyped-type_two Eq l r t h = AreTyped-as_bool l r t h
AreTyped-type_two Ne l r t h = AreTyped-as_bool l r t h
AreTyped-type_two And l r t h = AreTyped-both_bool l r t h
AreTyped-type_two Or l r t h = AreTyped-both_bool l r t h
AreTyped-type_two _ l r t h = AreTyped-both_int IntTy l r t h

pub record IsTypedChoice (c a b : Option Ty) (t : Ty) : Type 0 where
  pub condition : c ≡ Some BoolTy
  pub choices : same_type a b ≡ Some t

pub IsTypedChoice-type_choose : (c a b : Option Ty) (t : Ty) → type_choose c a b ≡ Some t → IsTypedChoice c a b t
IsTypedChoice-type_choose (Some BoolTy) a b t h = record { condition = refl; choices = h }
IsTypedChoice-type_choose _ a b t h = cc

-- ---- the value of a typed expression is of its type

FitsType-of_test : (b : Bool) → FitsType BoolTy (of_test b)
FitsType-of_test true = inr refl
FitsType-of_test false = inl refl

int_fits : (t : Ty) (x : ℤ) → Some IntTy ≡ Some t → FitsType t x
int_fits IntTy x h = tt
int_fits BoolTy x h = cc

test_fits : (t : Ty) (b : Bool) → Some BoolTy ≡ Some t → FitsType t (of_test b)
test_fits BoolTy b h = FitsType-of_test b
test_fits IntTy b h = tt

FitsType-negate : (op : UnOp) (e : Option Ty) (t : Ty) (x : ℤ) → type_one op e ≡ Some t → FitsType t (negate op x)
FitsType-negate Neg (Some IntTy) t x h = int_fits t (negate Neg x) h
FitsType-negate Neg None t x h = cc
FitsType-negate Not (Some BoolTy) t x h = test_fits t (is_zero x) h
FitsType-negate _ _ t x h = cc

int_operands : (u : Ty) (l r : Option Ty) (t : Ty) → both_int u l r ≡ Some t → Some u ≡ Some t
int_operands u None r t h = cc
int_operands u (Some BoolTy) r t h = cc
int_operands u (Some IntTy) (Some IntTy) t h = h
int_operands u (Some IntTy) _ t h = cc

equals_is_bool : (o : Option Ty) (t : Ty) → as_bool o ≡ Some t → Some BoolTy ≡ Some t
equals_is_bool None t h = cc
equals_is_bool (Some u) t h = h

record AreBools (l r : Option Ty) (t : Ty) : Type 0 where
  pub right : r ≡ Some BoolTy
  pub whole : Some BoolTy ≡ Some t

AreBools-both_bool : (l r : Option Ty) (t : Ty) → both_bool l r ≡ Some t → AreBools l r t
AreBools-both_bool None r t h = cc
AreBools-both_bool (Some IntTy) r t h = cc
AreBools-both_bool (Some BoolTy) (Some BoolTy) t h = record { right = refl; whole = h }
AreBools-both_bool (Some BoolTy) _ t h = cc

-- a bool of one of two ways
FitsType-cond : (t : Ty) (b : Bool) (x y : ℤ) → FitsType t x → FitsType t y → FitsType t (cond b x y)
FitsType-cond t true x y p q = p
FitsType-cond t false x y p q = q

FitsType-along : (t : Ty) (x : ℤ) → Some BoolTy ≡ Some t → FitsType BoolTy x → FitsType t x
FitsType-along BoolTy x h p = p
FitsType-along IntTy x h p = tt

FitsType-combine : (op : BinOp) (l r : Option Ty) (t : Ty) (x y : ℤ) → type_two op l r ≡ Some t
    → ((u : Ty) → r ≡ Some u → FitsType u y) → FitsType t (combine op x y)
FitsType-combine Add l r t x y h fit = int_fits t (combine Add x y) (int_operands IntTy l r t h)
FitsType-combine Sub l r t x y h fit = int_fits t (combine Sub x y) (int_operands IntTy l r t h)
FitsType-combine Mul l r t x y h fit = int_fits t (combine Mul x y) (int_operands IntTy l r t h)
FitsType-combine Div l r t x y h fit = int_fits t (combine Div x y) (int_operands IntTy l r t h)
FitsType-combine Rem l r t x y h fit = int_fits t (combine Rem x y) (int_operands IntTy l r t h)
FitsType-combine Lt l r t x y h fit = FitsType-along t (combine Lt x y) (int_operands BoolTy l r t h) (FitsType-of_test _)
FitsType-combine Le l r t x y h fit = FitsType-along t (combine Le x y) (int_operands BoolTy l r t h) (FitsType-of_test _)
FitsType-combine Gt l r t x y h fit = FitsType-along t (combine Gt x y) (int_operands BoolTy l r t h) (FitsType-of_test _)
FitsType-combine Ge l r t x y h fit = FitsType-along t (combine Ge x y) (int_operands BoolTy l r t h) (FitsType-of_test _)
FitsType-combine Eq l r t x y h fit = FitsType-along t (combine Eq x y) (equals_is_bool (same_type l r) t h) (FitsType-of_test _)
FitsType-combine Ne l r t x y h fit = FitsType-along t (combine Ne x y) (equals_is_bool (same_type l r) t h) (FitsType-of_test _)
FitsType-combine And l r t x y h fit =
    let b = AreBools-both_bool l r t h in
    FitsType-along t (combine And x y) b.whole (FitsType-cond BoolTy (is_zero x) (pos 0) y (inl refl) (fit BoolTy b.right))
FitsType-combine Or l r t x y h fit =
    let b = AreBools-both_bool l r t h in
    FitsType-along t (combine Or x y) b.whole (FitsType-cond BoolTy (is_zero x) y (pos 1) (fit BoolTy b.right) (inr refl))

record AreAlike (a b : Option Ty) (t : Ty) : Type 0 where
  pub first : a ≡ Some t
  pub second : b ≡ Some t

AreAlike-same_type : (a b : Option Ty) (t : Ty) → same_type a b ≡ Some t → AreAlike a b t
AreAlike-same_type None b t h = cc
AreAlike-same_type (Some IntTy) None t h = cc
AreAlike-same_type (Some IntTy) (Some IntTy) t h = record { first = h; second = h }
AreAlike-same_type (Some BoolTy) (Some BoolTy) t h = record { first = h; second = h }
AreAlike-same_type _ _ t h = cc

-- an expression's value is of the expression's type
pub FitsType-value : (types : List Ty) (values : List ℤ) (e : Term) (t : Ty)
    → AreArguments types values → type_of types e ≡ Some t → FitsType t (value values e)
FitsType-value types values (Number token x) t a h = int_fits t x h
FitsType-value types values (Truth token x) t a h = test_fits t x h
FitsType-value types values (Arg token k) t a h = a.fit k t h
FitsType-value types values (Unary token op e) t a h = FitsType-negate op (type_of types e) t (value values e) h
FitsType-value types values (Binary token op l r) t a h =
    FitsType-combine op (type_of types l) (type_of types r) t (value values l) (value values r) h
    (λ u p. FitsType-value types values r u a p)
FitsType-value types values (Choose token c x y) t a h =
    let p = IsTypedChoice-type_choose (type_of types c) (type_of types x) (type_of types y) t h in
    let q = AreAlike-same_type (type_of types x) (type_of types y) t p.choices in
    FitsType-cond t (is_zero (value values c)) (value values y) (value values x)
    (FitsType-value types values y t a q.second) (FitsType-value types values x t a q.first)
