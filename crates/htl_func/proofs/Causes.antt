-- Each answer of the compiler has one cause.
use Rattle.std.proofs.Common.{◌≡◌, ◌↔◌, ℕ, ◌<◌, List, Some, None, Result, Err, refl, sym, ap, ◌∙◌, subst, arith}
use Rattle.htl_base.specs.{declared.Ty.Ty, declared.Ty.TheVariants.Int as IntTy, declared.Ty.TheVariants.Bool as BoolTy}
use Rattle.htl_model.specs.{declared.function.Code.Code, Functions.Term, Functions.Unary, Functions.Binary, Functions.Choose, Functions.type_of, Functions.type_one, Functions.held}
use Rattle.htl_fcode.proofs.Operators.{IsTyped-type_one, AreTyped-type_two, IsTypedChoice-type_choose, AreTyped-same_type}
use Rattle.htl_func.specs.{declared.compiler.FnFault.FnFault, declared.compiler.FnFault.TheVariants.IllTyped, declared.compiler.FnFault.TheVariants.Deep, declared.compiler.FnFault.TheVariants.Memory, Compiled.IsFunction, Faults.IsFault}
use Rattle.htl_func.specs.Expressions.{first_ill, ill_typed, or_else, at_fault, unless_type}

-- a typed expression has no ill-typed operator
pub first_ill-typed : (args : List Ty) (e : Term) (t : Ty) → type_of args e ≡ Some t → first_ill args e ≡ None
first_ill-typed args (Unary token op e) t h =
    let y = IsTyped-type_one op (type_of args e) t h in
    ap (λ o. or_else o (at_fault token (type_one op (type_of args e)))) (first_ill-typed args e y.type y.is) ∙ ap (at_fault token) h
first_ill-typed args (Binary token op l r) t h =
    let y = AreTyped-type_two op (type_of args l) (type_of args r) t h in
    rw (first_ill-typed args l y.left.type y.left.is, first_ill-typed args r y.right.type y.right.is) (ap (at_fault token) h)
first_ill-typed args (Choose token c a b) t h =
    let w = IsTypedChoice-type_choose (type_of args c) (type_of args a) (type_of args b) t h in
    let y = AreTyped-same_type (type_of args a) (type_of args b) t w.choices in
    rw (first_ill-typed args c BoolTy w.condition, first_ill-typed args a y.left.type y.left.is, first_ill-typed args b y.right.type y.right.is)
    (ap (at_fault token) h)
first_ill-typed args _ t h = refl

unless_type-same : (t : Ty) (first : ℕ) → unless_type t first (Some t) ≡ None
unless_type-same IntTy first = refl
unless_type-same BoolTy first = refl

pub ill_typed-typed : (first : ℕ) (args : List Ty) (want : Ty) (e : Term) → type_of args e ≡ Some want → ill_typed first args want e ≡ None
ill_typed-typed first args want e h =
    ap (λ o. or_else o (unless_type want first (type_of args e))) (first_ill-typed args e want h) ∙ ap (unless_type want first) h
    ∙ unless_type-same want first

err-injective : (f g : FnFault) → ◌≡◌ {A = Result Code FnFault} (Err f) (Err g) → f ≡ g
err-injective f g h = cc

-- a fault isn't a function's
pub no_function : (first : ℕ) (args : List Ty) (want : Ty) (e : Term) (f : FnFault) → IsFault first args want e f → IsFunction args want e → ⊥
no_function first args want e (IllTyped token) h i = let n = ill_typed-typed first args want e i.typed in cc
no_function first args want e (Deep token) h i = omega (arith, h.2, i.fits)
no_function first args want e Memory h i = h

ill_back : (first : ℕ) (args : List Ty) (want : Ty) (e : Term) (f : FnFault) (token : ℕ) → IsFault first args want e f
    → ill_typed first args want e ≡ Some token → f ≡ IllTyped token
ill_back first args want e (IllTyped t) token h i = let k : t ≡ token = cc in ap IllTyped k
ill_back first args want e (Deep t) token h i = let n = ill_typed-typed first args want e h.1 in cc
ill_back first args want e Memory token h i = absurd h

deep_back : (first : ℕ) (args : List Ty) (want : Ty) (e : Term) (f : FnFault) (token : ℕ) → IsFault first args want e f
    → (token ≡ first) × (type_of args e ≡ Some want) × (64 < held e) → f ≡ Deep token
deep_back first args want e (IllTyped t) token h i = let n = ill_typed-typed first args want e i.1 in cc
deep_back first args want e (Deep t) token h i = ap Deep (h.0 ∙ sym i.0)
deep_back first args want e Memory token h i = absurd h

-- a fault has its own cause alone
pub IllTyped-exact : (first : ℕ) (args : List Ty) (want : Ty) (e : Term) (f : FnFault) → IsFault first args want e f → (token : ℕ)
    → ◌≡◌ {A = Result Code FnFault} (Err f) (Err (IllTyped token)) ↔ (ill_typed first args want e ≡ Some token)
IllTyped-exact first args want e f h token =
    (λ p. subst (IsFault first args want e) (err-injective f (IllTyped token) p) h, λ i. ap Err (ill_back first args want e f token h i))

pub Deep-exact : (first : ℕ) (args : List Ty) (want : Ty) (e : Term) (f : FnFault) → IsFault first args want e f → (token : ℕ)
    → ◌≡◌ {A = Result Code FnFault} (Err f) (Err (Deep token)) ↔ ((token ≡ first) × (type_of args e ≡ Some want) × (64 < held e))
Deep-exact first args want e f h token =
    (λ p. subst (IsFault first args want e) (err-injective f (Deep token) p) h, λ i. ap Err (deep_back first args want e f token h i))
