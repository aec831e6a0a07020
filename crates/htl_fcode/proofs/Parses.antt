-- The parse of code keeps a stack of expressions; the stack of types holds their types.
use Rattle.std.proofs.Common.{◌≡◌, ℕ, ◌+◌, ◌≤◌, ◌<◌, zero, suc, Bool, true, false, ◌&&◌, cond, option_map, ltb, leb, List, [], ◌∷◌, length, get_or, slice_get, map, Option, Some, None, ℤ, pos, refl, sym, ap, ◌∙◌, subst, arith}
use Rattle.htl_model.proofs.Words.{lt-ltb, and_parts, nat_tests, length-map, slice_get-get_or, slice_get_within}
use Rattle.htl_base.specs.{declared.Ty.Ty, declared.Ty.TheVariants.Int as IntTy, declared.Ty.TheVariants.Bool as BoolTy, declared.operator.UnOp.UnOp, declared.operator.BinOp.BinOp}
use Rattle.htl_model.specs.declared.function.FInstr.{FInstr}
use Rattle.htl_model.specs.declared.function.FInstr.TheVariants as I
use Rattle.htl_model.specs.Functions.{Term, Number, Truth, Arg, Unary, Binary, Choose, value, held, type_of, type_one, type_two, type_choose, same_type, of_test, stacked, fold_one, fold_two, fold_choose, bools_fit}
use Rattle.htl_fcode.specs.{declared.operation.Operation.Operation, Arguments.AreArguments, Stacks.operation_of, Stacks.put, Stacks.put_some, Stacks.in_place, Stacks.values_after, Stacks.types_after}
use Rattle.htl_fcode.specs.declared.operation.Operation.TheVariants as O
use Rattle.htl_fcode.proofs.Operators.{IsTyped-type_one, AreTyped-type_two, IsTypedChoice-type_choose, AreTyped-same_type}

-- the expressions after an operation
abbrev pub parsed : Operation → List Term → Option (List Term)
parsed (O.Number x) es = Some (Number 0 x ∷ es)
parsed (O.Truth x) es = Some (Truth 0 (ltb 0 x) ∷ es)
parsed (O.Argument k) es = Some (Arg 0 k ∷ es)
parsed (O.Unary op) es = fold_one 0 op es
parsed (O.Binary op) es = fold_two 0 op es
parsed O.Choose es = fold_choose 0 es

pub stacked-operation : (i : FInstr) (es : List Term) → stacked 0 i es ≡ parsed (operation_of i) es
stacked-operation (I.Int x) es = refl
stacked-operation _ es = refl

-- a bool that is put is 0 or 1
abbrev pub bool_fits : Operation → Bool
bool_fits (O.Truth x) = leb x 1
bool_fits _ = true

pub record BoolsFit (i : FInstr) (is : List FInstr) : Type 0 where
  pub first : bool_fits (operation_of i) ≡ true
  pub rest : bools_fit is ≡ true

pub BoolsFit-split : (i : FInstr) (is : List FInstr) → bools_fit (i ∷ is) ≡ true → BoolsFit i is
BoolsFit-split (I.Bool x) is h = let b = and_parts (leb x 1) (bools_fit is) h in record { first = b.0; rest = b.1 }
BoolsFit-split _ is h = record { first = refl; rest = h }

pub BoolsFit-join : (i : FInstr) (is : List FInstr) → bool_fits (operation_of i) ≡ true → bools_fit is ≡ true → bools_fit (i ∷ is) ≡ true
BoolsFit-join (I.Bool x) is p q = ap (λ b. b && bools_fit is) p ∙ q
BoolsFit-join _ is p q = q

-- the expressions have these types, and hold at most 64 values with what stands below them
abbrev pub Stands : List Ty → List Term → List Ty → Type 0
Stands args [] [] = Unit {0}
Stands args (e ∷ es) (t ∷ ts) = (type_of args e ≡ Some t) × (length es + held e ≤ 64) × Stands args es ts
Stands args _ _ = ⊥

abbrev pub StandsThere : List Ty → Option (List Term) → List Ty → Type 0
StandsThere args (Some es) ts = Stands args es ts
StandsThere args None ts = ⊥

pub length-Stands : (args : List Ty) (es : List Term) (ts : List Ty) → Stands args es ts → length ts ≡ length es
length-Stands args [] [] h = refl
length-Stands args (e ∷ es) (t ∷ ts) h = ap suc (length-Stands args es ts h.2)
length-Stands args _ _ h = absurd h

-- each expression holds a value at least
pub held_some : (e : Term) → 1 ≤ held e
held_some (Unary token op e) = held_some e
held_some (Binary token op l r) = omega (arith, held_some l)
held_some (Choose token c a b) = omega (arith, held_some c)
held_some _ = omega arith

put_room : {A : Type 0} (x : A) (xs : List A) → length xs < 64 → put x xs ≡ Some (x ∷ xs)
put_room x xs h = ap (λ b. cond b (Some (x ∷ xs)) None) (lt-ltb (length xs) 64 h)

-- ---- backwards: what stands after a step stood before it

pub record Before (args : List Ty) (o : Operation) (es : List Term) (us : List Ty) : Type 0 where
  pub types : List Ty
  pub stands : Stands args es types
  pub step : types_after args o types ≡ Some us

before_put : (args : List Ty) (o : Operation) (e : Term) (es : List Term) (us : List Ty)
    → ((t : Ty) (ts : List Ty) → type_of args e ≡ Some t → length ts < 64 → types_after args o ts ≡ Some (t ∷ ts))
    → Stands args (e ∷ es) us → Before args o es us
before_put args o e es [] f h = absurd h
before_put args o e es (t ∷ ts) f h =
    record {
      types = ts;
      stands = h.2;
      step = f t ts h.0 (omega (arith, held_some e, length-Stands args es ts h.2, h.1));
    }

before_unary : (args : List Ty) (op : UnOp) (es : List Term) (us : List Ty) → StandsThere args (fold_one 0 op es) us → Before args (O.Unary op) es us
before_unary args op [] us h = absurd h
before_unary args op (e ∷ es) [] h = absurd h
before_unary args op (e ∷ es) (u ∷ us) h =
    let y = IsTyped-type_one op (type_of args e) u h.0 in
    record {
      types = y.type ∷ us;
      stands = (y.is, h.1, h.2);
      step = ap (λ o. in_place (type_one op o) us) (sym y.is) ∙ ap (λ o. in_place o us) h.0;
    }

before_binary : (args : List Ty) (op : BinOp) (es : List Term) (us : List Ty) → StandsThere args (fold_two 0 op es) us → Before args (O.Binary op) es us
before_binary args op [] us h = absurd h
before_binary args op (r ∷ []) us h = absurd h
before_binary args op (r ∷ l ∷ es) [] h = absurd h
before_binary args op (r ∷ l ∷ es) (u ∷ us) h =
    let y = AreTyped-type_two op (type_of args l) (type_of args r) u h.0 in
    record {
      types = y.right.type ∷ y.left.type ∷ us;
      stands = (y.right.is, omega (arith, h.1), (y.left.is, omega (arith, h.1), h.2));
      step =
          ap (λ o. in_place (type_two op o (Some y.right.type)) us) (sym y.left.is)
          ∙ ap (λ o. in_place (type_two op (type_of args l) o) us) (sym y.right.is) ∙ ap (λ o. in_place o us) h.0;
    }

before_choose : (args : List Ty) (es : List Term) (us : List Ty) → StandsThere args (fold_choose 0 es) us → Before args O.Choose es us
before_choose args [] us h = absurd h
before_choose args (b ∷ []) us h = absurd h
before_choose args (b ∷ a ∷ []) us h = absurd h
before_choose args (b ∷ a ∷ c ∷ es) [] h = absurd h
before_choose args (b ∷ a ∷ c ∷ es) (u ∷ us) h =
    let w = IsTypedChoice-type_choose (type_of args c) (type_of args a) (type_of args b) u h.0 in
    let y = AreTyped-same_type (type_of args a) (type_of args b) u w.choices in
    record {
      types = y.right.type ∷ y.left.type ∷ BoolTy ∷ us;
      stands = (y.right.is, omega (arith, h.1), (y.left.is, omega (arith, h.1), (w.condition, omega (arith, h.1), h.2)));
      step =
          ap (λ o. in_place (same_type o (Some y.right.type)) us) (sym y.left.is)
          ∙ ap (λ o. in_place (same_type (type_of args a) o) us) (sym y.right.is) ∙ ap (λ o. in_place o us) w.choices;
    }

pub before : (args : List Ty) (o : Operation) (es : List Term) (us : List Ty) → bool_fits o ≡ true → StandsThere args (parsed o es) us → Before args o es us
before args (O.Number x) es us fits h =
    before_put args (O.Number x) (Number 0 x) es us (λ t ts e p. put_room IntTy ts p ∙ ap (λ o. in_place o ts) e) h
before args (O.Truth x) es us fits h =
    before_put args (O.Truth x) (Truth 0 (ltb 0 x)) es us (λ t ts e p. ap (λ b. cond b (put BoolTy ts) None) fits ∙ put_room BoolTy ts p ∙ ap (λ o. in_place o ts) e) h
before args (O.Argument k) es us fits h =
    before_put args (O.Argument k) (Arg 0 k) es us (λ t ts e p. ap (λ o. put_some o ts) e ∙ put_room t ts p) h
before args (O.Unary op) es us fits h = before_unary args op es us h
before args (O.Binary op) es us fits h = before_binary args op es us h
before args O.Choose es us fits h = before_choose args es us h

-- ---- forwards: where the types have a step, so do the expressions

pub record After (args : List Ty) (o : Operation) (es : List Term) (us : List Ty) : Type 0 where
  pub exprs : List Term
  pub parse : parsed o es ≡ Some exprs
  pub stands : Stands args exprs us
  pub fits : bool_fits o ≡ true

record IsPut {A : Type 0} (x : A) (xs ys : List A) : Type 0 where
  pub room : length xs < 64
  pub is : x ∷ xs ≡ ys

IsPut-by : {A : Type 0} (x : A) (xs ys : List A) (b : Bool) → ltb (length xs) 64 ≡ b → cond b (Some (x ∷ xs)) None ≡ Some ys → IsPut x xs ys
IsPut-by x xs ys true e h = record { room = grind (arith, nat_tests); is = cc }
IsPut-by x xs ys false e h = cc

IsPut-put : {A : Type 0} (x : A) (xs ys : List A) → put x xs ≡ Some ys → IsPut x xs ys
IsPut-put x xs ys h = IsPut-by x xs ys (ltb (length xs) 64) refl h

record IsInPlace (o : Option Ty) (ts us : List Ty) : Type 0 where
  pub type : Ty
  pub typed : o ≡ Some type
  pub is : type ∷ ts ≡ us

IsInPlace-in_place : (o : Option Ty) (ts us : List Ty) → in_place o ts ≡ Some us → IsInPlace o ts us
IsInPlace-in_place None ts us h = cc
IsInPlace-in_place (Some t) ts us h = record { type = t; typed = refl; is = cc }

after_put : (args : List Ty) (o : Operation) (e : Term) (es : List Term) (t : Ty) (ts us : List Ty)
    → parsed o es ≡ Some (e ∷ es) → bool_fits o ≡ true → type_of args e ≡ Some t → held e ≡ 1 → Stands args es ts → put t ts ≡ Some us → After args o es us
after_put args o e es t ts us p fits typed one s h =
    let w = IsPut-put t ts us h in
    record {
      exprs = e ∷ es;
      parse = p;
      stands = subst (λ xs. Stands args (e ∷ es) xs) w.is (typed, omega (arith, w.room, one, length-Stands args es ts s), s);
      fits = fits;
    }

after_argument : (args : List Ty) (k : ℕ) (es : List Term) (ts us : List Ty) (o : Option Ty) → slice_get args k ≡ o → Stands args es ts → put_some o ts ≡ Some us → After args (O.Argument k) es us
after_argument args k es ts us None e s h = cc
after_argument args k es ts us (Some t) e s h = after_put args (O.Argument k) (Arg 0 k) es t ts us refl refl e refl s h

after_truth : (args : List Ty) (x : ℕ) (es : List Term) (ts us : List Ty) (b : Bool) → leb x 1 ≡ b → Stands args es ts → cond b (put BoolTy ts) None ≡ Some us → After args (O.Truth x) es us
after_truth args x es ts us false e s h = cc
after_truth args x es ts us true e s h = after_put args (O.Truth x) (Truth 0 (ltb 0 x)) es BoolTy ts us refl e refl refl s h

after_unary : (args : List Ty) (op : UnOp) (es : List Term) (ts us : List Ty) → Stands args es ts → types_after args (O.Unary op) ts ≡ Some us → After args (O.Unary op) es us
after_unary args op [] [] us s h = cc
after_unary args op (e ∷ es) (t ∷ ts) us s h =
    let w = IsInPlace-in_place (type_one op (Some t)) ts us h in
    record {
      exprs = Unary 0 op e ∷ es;
      parse = refl;
      stands = subst (λ xs. Stands args (Unary 0 op e ∷ es) xs) w.is (ap (type_one op) s.0 ∙ w.typed, s.1, s.2);
      fits = refl;
    }
after_unary args op _ _ us s h = absurd s

after_binary : (args : List Ty) (op : BinOp) (es : List Term) (ts us : List Ty) → Stands args es ts → types_after args (O.Binary op) ts ≡ Some us → After args (O.Binary op) es us
after_binary args op [] (t ∷ ts) us s h = absurd s
after_binary args op (r ∷ es) [] us s h = absurd s
after_binary args op (r ∷ []) (t ∷ u ∷ ts) us s h = absurd s.2
after_binary args op (r ∷ l ∷ es) (t ∷ []) us s h = absurd s.2
after_binary args op (r ∷ l ∷ es) (t ∷ u ∷ ts) us s h =
    let w = IsInPlace-in_place (type_two op (Some u) (Some t)) ts us h in
    record {
      exprs = Binary 0 op l r ∷ es;
      parse = refl;
      stands =
          subst (λ xs. Stands args (Binary 0 op l r ∷ es) xs) w.is
          (ap (λ o. type_two op o (type_of args r)) s.2.0 ∙ ap (type_two op (Some u)) s.0 ∙ w.typed, omega (arith, s.1, s.2.1), s.2.2);
      fits = refl;
    }
after_binary args op _ _ us s h = cc

after_choose : (args : List Ty) (es : List Term) (ts us : List Ty) → Stands args es ts → types_after args O.Choose ts ≡ Some us → After args O.Choose es us
after_choose args [] (t ∷ ts) us s h = absurd s
after_choose args (b ∷ es) [] us s h = absurd s
after_choose args (b ∷ []) (t ∷ u ∷ ts) us s h = absurd s.2
after_choose args (b ∷ a ∷ es) (t ∷ []) us s h = absurd s.2
after_choose args (b ∷ a ∷ []) (t ∷ u ∷ v ∷ ts) us s h = absurd s.2.2
after_choose args (b ∷ a ∷ c ∷ es) (t ∷ u ∷ []) us s h = absurd s.2.2
after_choose args (b ∷ a ∷ c ∷ es) (t ∷ u ∷ v ∷ ts) us s h =
    let w = IsInPlace-in_place (type_choose (Some v) (Some u) (Some t)) ts us h in
    record {
      exprs = Choose 0 c a b ∷ es;
      parse = refl;
      stands =
          subst (λ xs. Stands args (Choose 0 c a b ∷ es) xs) w.is (
            ap (λ o. type_choose o (type_of args a) (type_of args b)) s.2.2.0 ∙ ap (λ o. type_choose (Some v) o (type_of args b)) s.2.0
                ∙ ap (type_choose (Some v) (Some u)) s.0 ∙ w.typed,
            omega (arith, s.1, s.2.1, s.2.2.1),
            s.2.2.2,
          );
      fits = refl;
    }
after_choose args _ _ us s h = cc

pub after : (args : List Ty) (o : Operation) (es : List Term) (ts us : List Ty) → Stands args es ts → types_after args o ts ≡ Some us → After args o es us
after args (O.Number x) es ts us s h = after_put args (O.Number x) (Number 0 x) es IntTy ts us refl refl refl refl s h
after args (O.Truth x) es ts us s h = after_truth args x es ts us (leb x 1) refl s h
after args (O.Argument k) es ts us s h = after_argument args k es ts us (slice_get args k) refl s h
after args (O.Unary op) es ts us s h = after_unary args op es ts us s h
after args (O.Binary op) es ts us s h = after_binary args op es ts us s h
after args O.Choose es ts us s h = after_choose args es ts us s h

-- ---- the stack of values holds the values of the expressions

abbrev pub all_values : List ℤ → List Term → List ℤ
all_values values es = map (value values) es

values_put : (values : List ℤ) (args : List Ty) (e : Term) (es : List Term) (us : List Ty)
    → Stands args (e ∷ es) us → put (value values e) (all_values values es) ≡ Some (all_values values (e ∷ es))
values_put values args e es [] h = absurd h
values_put values args e es (t ∷ ts) h =
    put_room (value values e) (all_values values es) (omega (arith, held_some e, h.1, length-map es (value values)))

of_bool_value : (x : ℕ) → leb x 1 ≡ true → pos x ≡ of_test (ltb 0 x)
of_bool_value (suc (suc x)) h = absurd (let k : suc (suc x) ≤ 1 = grind (arith, nat_tests) in omega arith)
of_bool_value _ h = refl

value_argument : (values : List ℤ) (args : List Ty) (k : ℕ) (es : List Term) (us : List Ty)
    → AreArguments args values → Stands args (Arg 0 k ∷ es) us → slice_get values k ≡ Some (get_or values k (pos 0))
value_argument values args k es [] a h = absurd h
value_argument values args k es (t ∷ ts) a h =
    slice_get-get_or values k (pos 0) (omega (arith, a.count, slice_get_within args k t h.0))

values_unary : (values : List ℤ) (op : UnOp) (es : List Term) (args : List Ty) (us : List Ty) → StandsThere args (fold_one 0 op es) us
    → values_after values (O.Unary op) (all_values values es) ≡ option_map (all_values values) (fold_one 0 op es)
values_unary values op [] args us h = absurd h
values_unary values op (e ∷ es) args us h = refl

values_binary : (values : List ℤ) (op : BinOp) (es : List Term) (args : List Ty) (us : List Ty) → StandsThere args (fold_two 0 op es) us
    → values_after values (O.Binary op) (all_values values es) ≡ option_map (all_values values) (fold_two 0 op es)
values_binary values op (r ∷ l ∷ es) args us h = refl
values_binary values op _ args us h = absurd h

values_choose : (values : List ℤ) (es : List Term) (args : List Ty) (us : List Ty) → StandsThere args (fold_choose 0 es) us
    → values_after values O.Choose (all_values values es) ≡ option_map (all_values values) (fold_choose 0 es)
values_choose values (b ∷ a ∷ c ∷ es) args us h = refl
values_choose values _ args us h = absurd h

pub values_parsed : (values : List ℤ) (args : List Ty) (o : Operation) (es : List Term) (us : List Ty)
    → AreArguments args values → bool_fits o ≡ true → StandsThere args (parsed o es) us
    → values_after values o (all_values values es) ≡ option_map (all_values values) (parsed o es)
values_parsed values args (O.Number x) es us a fits h = values_put values args (Number 0 x) es us h
values_parsed values args (O.Truth x) es us a fits h =
    ap (λ v. put v (all_values values es)) (of_bool_value x fits) ∙ values_put values args (Truth 0 (ltb 0 x)) es us h
values_parsed values args (O.Argument k) es us a fits h =
    ap (λ o. put_some o (all_values values es)) (value_argument values args k es us a h) ∙ values_put values args (Arg 0 k) es us h
values_parsed values args (O.Unary op) es us a fits h = values_unary values op es args us h
values_parsed values args (O.Binary op) es us a fits h = values_binary values op es args us h
values_parsed values args O.Choose es us a fits h = values_choose values es args us h
