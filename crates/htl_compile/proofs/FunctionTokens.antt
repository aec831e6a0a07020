-- The fault of a function is told by one of its tokens, and is one.
use Rattle.std.proofs.Common.{◌≡◌, ◌<◌, ◌⊎◌, ℕ, List, Option, Some, None, slice_get, sym, ◌∙◌, ap, subst, arith, inl, inr}
use Rattle.htl_compile.proofs.Words.{Ty, IntTy, BoolTy, IsTyped, AreTyped, IsFaultOf, IsFaultAt, IsFirstFault, AreOperatorsBelow, IsFunctionBelow, AreFunctionsBelow, no_function, ill_typed-typed, or_else, at_fault, first_ill, unless_type, ill_typed, FnFault, FunctionType, function_types, Term, Unary, Binary, Choose, type_of, type_one, type_two, type_choose, Tables, Fun, Formula, Compiled, cases_less_same}
use Rattle.htl_func.specs.declared.compiler.FnFault.TheVariants as fn_fault

-- ---- the token of an ill-typed function

-- where there is a token, it is among so many
abbrev IsBelow : ℕ → Option ℕ → Type 0
IsBelow n None = Unit {0}
IsBelow n (Some k) = k < n

either_below : (n : ℕ) (a b : Option ℕ) → IsBelow n a → IsBelow n b → IsBelow n (or_else a b)
either_below n None b p q = q
either_below n (Some k) b p q = p

fault_below : (n token : ℕ) (t : Option Ty) → token < n → IsBelow n (at_fault token t)
fault_below n token None h = h
fault_below n token (Some t) h = tt

first_below : (n : ℕ) (args : List Ty) (e : Term) → AreOperatorsBelow n e → IsBelow n (first_ill args e)
first_below n args (Unary token op e) h =
    either_below n (first_ill args e) (at_fault token (type_one op (type_of args e))) (first_below n args e h.1) (fault_below n token _ h.0)
first_below n args (Binary token op l r) h =
    either_below n (first_ill args l) (or_else (first_ill args r) (at_fault token (type_two op (type_of args l) (type_of args r)))) (first_below n args l h.1.0)
    (either_below n (first_ill args r) (at_fault token (type_two op (type_of args l) (type_of args r))) (first_below n args r h.1.1) (fault_below n token _ h.0))
first_below n args (Choose token c a b) h =
    let at = at_fault token (type_choose (type_of args c) (type_of args a) (type_of args b)) in
    either_below n (first_ill args c) (or_else (first_ill args a) (or_else (first_ill args b) at)) (first_below n args c h.1.0)
    (either_below n (first_ill args a) (or_else (first_ill args b) at) (first_below n args a h.1.1.0)
    (either_below n (first_ill args b) at (first_below n args b h.1.1.1) (fault_below n token _ h.0)))
first_below n args _ h = tt

unless_below : (n : ℕ) (want : Ty) (first : ℕ) (t : Option Ty) → first < n → IsBelow n (unless_type want first t)
unless_below n IntTy first (Some IntTy) h = tt
unless_below n IntTy first None h = h
unless_below n BoolTy first (Some BoolTy) h = tt
unless_below n _ first _ h = h

ill_below : (n first : ℕ) (args : List Ty) (want : Ty) (e : Term) (token : ℕ) → first < n → AreOperatorsBelow n e → ill_typed first args want e ≡ Some token → token < n
ill_below n first args want e token low h is =
    subst (IsBelow n) is
    (either_below n (first_ill args e) (unless_type want first (type_of args e)) (first_below n args e h) (unless_below n want first (type_of args e) low))

ill_here : (n : ℕ) (f : FunctionType) (g : Fun) (token : ℕ) → IsFunctionBelow n g → IsFaultOf f g (fn_fault.IllTyped token) → token < n
ill_here n f (Formula first e) token h is = ill_below n first f.args f.want e token h.0 h.1 is
ill_here n f (Compiled code) token h is = absurd is

deep_here : (n : ℕ) (f : FunctionType) (g : Fun) (token : ℕ) → IsFunctionBelow n g → IsFaultOf f g (fn_fault.Deep token) → token < n
deep_here n f (Formula first e) token h is = omega (arith, h.0, is.0)
deep_here n f (Compiled code) token h is = absurd is

pub ill_token : (n : ℕ) (t : Tables) (token : ℕ) → AreFunctionsBelow n t → IsFirstFault t (fn_fault.IllTyped token) → token < n
ill_token n t token h is = ill_here n is.here.type is.here.function token (h is.place is.here.function is.here.there) is.here.fault

pub deep_token : (n : ℕ) (t : Tables) (token : ℕ) → AreFunctionsBelow n t → IsFirstFault t (fn_fault.Deep token) → token < n
deep_token n t token h is = deep_here n is.here.type is.here.function token (h is.place is.here.function is.here.there) is.here.fault

-- ---- one fault

-- no want of memory
abbrev pub IsTold : FnFault → Type 0
IsTold fn_fault.Memory = ⊥
IsTold _ = Unit {0}

-- a function with a fault isn't typed
not_typed : (f : FunctionType) (g : Fun) (e : FnFault) → IsTold e → IsFaultOf f g e → IsTyped f g → ⊥
not_typed f (Formula first e) (fn_fault.IllTyped token) told h i = no_function first f.args f.want e (fn_fault.IllTyped token) h i
not_typed f (Formula first e) (fn_fault.Deep token) told h i = no_function first f.args f.want e (fn_fault.Deep token) h i
not_typed f (Formula first e) fn_fault.Memory told h i = told
not_typed f (Compiled code) fn_fault.Memory told h i = told
not_typed f (Compiled code) _ told h i = h

pub not_all_typed : (t : Tables) (e : FnFault) → IsTold e → IsFirstFault t e → AreTyped t → ⊥
not_all_typed t e told h typed =
    not_typed h.here.type h.here.function e told h.here.fault (typed h.place h.here.type h.here.function h.here.typed h.here.there)

one_token : (o : Option ℕ) (k j : ℕ) → o ≡ Some k → o ≡ Some j → k ≡ j
one_token o k j p q = let both : ◌≡◌ {A = Option ℕ} (Some k) (Some j) = sym p ∙ q in cc

no_token : (o : Option ℕ) (k : ℕ) → o ≡ None → o ≡ Some k → ⊥
no_token o k p q = let both : ◌≡◌ {A = Option ℕ} None (Some k) = sym p ∙ q in cc

one_fault : (f : FunctionType) (g : Fun) (e d : FnFault) → IsTold e → IsTold d → IsFaultOf f g e → IsFaultOf f g d → e ≡ d
one_fault f (Formula first x) (fn_fault.IllTyped k) (fn_fault.IllTyped j) p q h i = ap fn_fault.IllTyped (one_token (ill_typed first f.args f.want x) k j h i)
one_fault f (Formula first x) (fn_fault.IllTyped k) (fn_fault.Deep j) p q h i =
    absurd (no_token (ill_typed first f.args f.want x) k (ill_typed-typed first f.args f.want x i.1) h)
one_fault f (Formula first x) (fn_fault.Deep k) (fn_fault.IllTyped j) p q h i =
    absurd (no_token (ill_typed first f.args f.want x) j (ill_typed-typed first f.args f.want x h.1) i)
one_fault f (Formula first x) (fn_fault.Deep k) (fn_fault.Deep j) p q h i = ap fn_fault.Deep (h.0 ∙ sym i.0)
one_fault f (Formula first x) fn_fault.Memory d p q h i = absurd p
one_fault f (Compiled code) fn_fault.Memory d p q h i = absurd p
one_fault f (Formula first x) _ fn_fault.Memory p q h i = absurd q
one_fault f (Compiled code) _ d p q h i = absurd h

one_place : (t : Tables) (a b : ℕ) (e d : FnFault) → a ≡ b → IsTold e → IsTold d → IsFaultAt t a e → IsFaultAt t b d → e ≡ d
one_place t a b e d same p q h i =
    let types : ◌≡◌ {A = Option FunctionType} (Some h.type) (Some i.type) = sym h.typed ∙ ap (slice_get (function_types t)) same ∙ i.typed in
    let type : h.type ≡ i.type = cc in
    let functions : ◌≡◌ {A = Option Fun} (Some h.function) (Some i.function) = sym h.there ∙ ap (slice_get t.functions) same ∙ i.there in
    let function : h.function ≡ i.function = cc in
    one_fault i.type i.function e d p q
    (subst (λ (f : FunctionType). IsFaultOf f i.function e) type (subst (λ (g : Fun). IsFaultOf h.type g e) function h.fault)) i.fault

-- the first function that isn't compiled has one fault
pub one_function_fault : (t : Tables) (e d : FnFault) → IsTold e → IsTold d → IsFirstFault t e → IsFirstFault t d → e ≡ d
one_function_fault t e d p q h i = by (cases_less_same h.place i.place)
  where
    by : (h.place < i.place) ⊎ (h.place ≡ i.place) ⊎ (i.place < h.place) → e ≡ d
    by (inl less) =
        absurd (not_typed h.here.type h.here.function e p h.here.fault (i.first h.place (omega arith) less h.here.type h.here.function h.here.typed h.here.there))
    by (inr (inl same)) = one_place t h.place i.place e d same p q h.here i.here
    by (inr (inr more)) =
        absurd (not_typed i.here.type i.here.function d q i.here.fault (h.first i.place (omega arith) more i.here.type i.here.function i.here.typed i.here.there))
