-- Compiling the functions one after the other.
use Rattle.std.proofs.Common.{◌≡◌, ◌<◌, ◌+◌, ◌↔◌, ℕ, Bool, true, cond, List, length, map, get_or, slice_get, Some, Result, Err, sym, ◌∙◌, ap, ap₂, subst, arith, inl, inr}
use Rattle.htl_compile.proofs.Words.{slice_get_within, Ty, with_functions, FunctionType, function_types, code_at, codes, coded, AreTyped, IsTyped, IsTypedAt, TypedBetween, IsFaultOf, IsFunction, IsCompiled, ill_typed, FnFault, function_at, outputs_count, IsSmallFunction, AreSmall, Term, type_of, held, list_to, Tables, Fun, Formula, Compiled, fun_of, tables_of, function_count, count_at, Task, Parts, Code, Function, cases_lt}
use Rattle.htl_compile.proofs.CodedLaws.{code_is}
use Rattle.htl_func.specs.declared.compiler.FnFault.TheVariants as fn_fault

-- ---- one function

pub small_at : (t : Tables) (fs : List Function) (id : ℕ) (x : Function) (f : FunctionType) → t.functions ≡ map fun_of fs → id < length t.functions → x ≡ get_or fs id x
    → slice_get (function_types t) id ≡ Some f → AreSmall t → IsSmallFunction f (fun_of x)
small_at t fs id x f same less is type small = small id f (fun_of x) type (function_at t fs id x same less is)

-- a compiled expression is the code of its place
pub code_here : (t : Tables) (id : ℕ) (f : FunctionType) (first : ℕ) (e : Term) (code : Code) → slice_get (function_types t) id ≡ Some f → slice_get t.functions id ≡ Some (Formula first e)
    → IsCompiled f.args f.want e code → Compiled code ≡ code_at t id
code_here t id f first e code type there c =
    let made : List Ty → Ty → List _ → Fun = λ args want instrs. Compiled (record { args = args; want = want; instrs = instrs }) in
    ap (λ (args : List Ty). made args code.want code.instrs) c.args ∙ ap (λ (want : Ty). made f.args want code.instrs) c.want ∙ ap (made f.args f.want) c.instrs
    ∙ sym (code_is t id f (Formula first e) type there)

pub typed_here : (t : Tables) (id : ℕ) (f : FunctionType) (first : ℕ) (e : Term) → slice_get (function_types t) id ≡ Some f → slice_get t.functions id ≡ Some (Formula first e)
    → IsFunction f.args f.want e → IsTypedAt t id
typed_here t id f first e type there h = λ g x a b.
    let one : f ≡ g = (let z : Some f ≡ Some g = sym type ∙ a in cc) in
    let two : Formula first e ≡ x = (let z : Some (Formula first e) ≡ Some x = sym there ∙ b in cc) in
    subst (λ (y : FunctionType). IsTyped y x) one (subst (λ (y : Fun). IsTyped f y) two h)

pub fault_here : (f : FunctionType) (first : ℕ) (e : Term) (fault : FnFault) (r : Result Code FnFault) → r ≡ Err fault
    → ((token : ℕ) → (r ≡ Err (fn_fault.IllTyped token)) ↔ (ill_typed first f.args f.want e ≡ Some token))
    → ((token : ℕ) → (r ≡ Err (fn_fault.Deep token)) ↔ ((token ≡ first) × (type_of f.args e ≡ Some f.want) × (64 < held e)))
    → IsFaultOf f (Formula first e) fault
fault_here f first e (fn_fault.IllTyped token) r is ill deep = (ill token).0 is
fault_here f first e (fn_fault.Deep token) r is ill deep = (deep token).0 is
fault_here f first e fn_fault.Memory r is ill deep = tt

-- ---- one after the other

-- where the functions of a task end
task_end : (t : Tables) (ts : List Task) (k id count : ℕ) (x : Task) → ts ≡ t.tasks → k < length ts → x ≡ get_or ts k x → count ≡ function_count x
    → id + count_at (slice_get t.tasks k) ≡ id + count
task_end t ts k id count x same less is counted =
    let inside : k < length t.tasks = omega (arith, less, ap length same) in
    omega (arith, outputs_count t ts k x same inside is, counted)

pub typed_on : (t : Tables) (from mid to : ℕ) → TypedBetween t from mid → TypedBetween t mid to → TypedBetween t from to
typed_on t from mid to h g = λ k a b. elim (cases_lt k mid) [ inl less ↦ h k a less | inr more ↦ g k more b ]

pub typed_to : (t : Tables) (from a b : ℕ) → a ≡ b → TypedBetween t from a → TypedBetween t from b
typed_to t from a b e h = subst (TypedBetween t from) e h

pub typed_more : (t : Tables) (ts : List Task) (k id count : ℕ) (x : Task) → ts ≡ t.tasks → k < length ts → x ≡ get_or ts k x → count ≡ function_count x → TypedBetween t 0 id
    → TypedBetween t id (id + count_at (slice_get t.tasks k)) → TypedBetween t 0 (id + count)
typed_more t ts k id count x same less is counted h g =
    let e = task_end t ts k id count x same less is counted in
    typed_on t 0 id (id + count) h (typed_to t id (id + count_at (slice_get t.tasks k)) (id + count) e g)

-- nothing stands between a place and itself
pub typed_none : (t : Tables) (from to : ℕ) → from ≡ to → TypedBetween t from to
typed_none t from to e = λ k a b. absurd (omega (arith, e, a, b))

-- one more
pub typed_further : (t : Tables) (from to next : ℕ) → next ≡ to + 1 → TypedBetween t from to → IsTypedAt t to → TypedBetween t from next
typed_further t from to next e h here = λ k a b. elim (cases_lt k to) [
  | inl less ↦ h k a less
  | inr more ↦ subst (IsTypedAt t) (let same : to ≡ k = omega (arith, e, more, b) in same) here
]

-- and all of them
pub typed_all : (t : Tables) (to : ℕ) → length t.functions ≡ to → TypedBetween t 0 to → AreTyped t
typed_all t to e h = λ k f g a b. h k (omega arith) (omega (arith, e, slice_get_within t.functions k g b)) f g a b

-- an abstract task has no function
pub abstract_count : (x : Task) → x.is_abstract ≡ true → function_count x ≡ 0
abstract_count x e = ap (λ (b : Bool). cond b 0 (length x.outputs)) e

-- ---- the list of codes

pub codes_to : (t : Tables) (fs : List Function) (a b : ℕ) → a ≡ b → map fun_of fs ≡ list_to (code_at t) a → map fun_of fs ≡ list_to (code_at t) b
codes_to t fs a b e h = h ∙ ap (list_to (code_at t)) e

pub codes_past : (t : Tables) (ts : List Task) (fs : List Function) (k id count : ℕ) (x : Task) → ts ≡ t.tasks → k < length ts → x ≡ get_or ts k x → count ≡ function_count x
    → map fun_of fs ≡ list_to (code_at t) (id + count_at (slice_get t.tasks k)) → map fun_of fs ≡ list_to (code_at t) (id + count)
codes_past t ts fs k id count x same less is counted h =
    codes_to t fs (id + count_at (slice_get t.tasks k)) (id + count) (task_end t ts k id count x same less is counted) h

-- the tables of the old lists and the new functions
pub rebuilt : (t : Tables) (p : Parts) (fs : List Function) → t ≡ tables_of p → map fun_of fs ≡ codes t
    → coded t ≡ tables_of (record { comms = p.comms; modes = p.modes; modules = p.modules; ports = p.ports; tasks = p.tasks; invs = p.invs; switches = p.switches; functions = fs })
rebuilt t p fs is made = ap₂ with_functions is (sym made)
