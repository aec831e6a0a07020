-- The functions of tables, one after the other: how many there are, and where each stands.
use Rattle.std.proofs.Common.{◌≡◌, ◌≤◌, ◌<◌, ◌*◌, ◌^◌, ℕ, zero, suc, ◌+◌, Bool, true, false, cond, List, length, map, add-one, get_or, slice_get, Option, Some, None, IfSome, sym, ◌∙◌, ap, subst, arith, inl, inr}
use Rattle.htl_object.proofs.Words.{length-map, slice_get_cases, slice_get-get_or, Ty, BoolTy, Function, Switch, Task, AreInRange, IsTaskInRange, Tables, Fun, fun_of, function_count, count_at, count_before, output_within, function_types, output_type, comm_type, output_types_at, switch_types_at, each_at, get_mapped}

-- ---- how many functions there are

count_of : (k : Task) → length k.outputs ≤ 256 → function_count k ≤ 256
count_of k h = by k.is_abstract
  where
    by : (b : Bool) → cond b 0 (length k.outputs) ≤ 256
    by true = omega arith
    by false = h

count_small : (t : Tables) (n : ℕ) → AreInRange t → count_before n t.tasks ≤ 256 * n
count_small t zero r = omega arith
count_small t (suc n) r = elim (slice_get_cases t.tasks n).1 [
  | inl c ↦
      let range : IsTaskInRange t c.0 = each_at (IsTaskInRange t) t.tasks r.tasks n c.0 c.2 in
      let is : count_at (slice_get t.tasks n) ≡ function_count c.0 = ap count_at c.2 in
      omega (arith, is, count_of c.0 range.few_outputs, count_small t n r)
  | inr c ↦ let is : count_at (slice_get t.tasks n) ≡ 0 = ap count_at c.1 in omega (arith, is, count_small t n r)
]

pub few_functions : (t : Tables) → AreInRange t → length t.functions ≤ 1052672
few_functions t r = omega (arith, count_small t (length t.tasks) r, r.few_tasks, r.few_switches, r.function_count)

-- ---- the function of an output

pub output_there : (t : Tables) (k j : ℕ) (x : Task) → AreInRange t → slice_get t.tasks k ≡ Some x → x.is_abstract ≡ false → j < length x.outputs → count_before k t.tasks + j < length t.functions
output_there t k j x r at concrete less =
    let count : function_count x ≡ length x.outputs = ap (λ (b : Bool). cond b 0 (length x.outputs)) concrete in
    let below : IfSome (slice_get t.tasks k) (λ y. j < function_count y) = subst (λ (o : Option Task). IfSome o (λ y. j < function_count y)) (sym at) (omega (arith, count, less)) in
    output_within t k j r (task_within t k x at) below
  where
    task_within : (t : Tables) (k : ℕ) (x : Task) → slice_get t.tasks k ≡ Some x → k < length t.tasks
    task_within t k x at = elim (slice_get_cases t.tasks k).1 [ inl c ↦ c.1 | inr c ↦ absurd (let no : Some x ≡ None = sym at ∙ c.1 in cc) ]

-- ---- the outputs of one task

pub task_there : (t : Tables) (ts : List Task) (k : ℕ) (x : Task) → ts ≡ t.tasks → k < length t.tasks → x ≡ get_or ts k x → slice_get t.tasks k ≡ Some x
task_there t ts k x same less is =
    slice_get-get_or t.tasks k x less ∙ ap (λ (y : Task). Some y) (ap (λ (l : List Task). get_or l k x) (sym same) ∙ sym is)

-- the function of output j stands at this place, among few, and its types are those of the task
pub record IsOutputAt (t : Tables) (x : Task) (j place : ℕ) (want : Ty) : Type 0 where
  pub within : place < length t.functions
  pub few : place < 2 ^ 32
  pub types : slice_get (function_types t) place ≡ Some (output_type x.inputs want)

pub output_at : (t : Tables) (ts : List Task) (k first j : ℕ) (x : Task) (outputs : List Ty) (d : Ty) → AreInRange t → ts ≡ t.tasks → k < length t.tasks → x ≡ get_or ts k x
    → first ≡ count_before k t.tasks → x.is_abstract ≡ false → outputs ≡ x.outputs → j < length outputs → IsOutputAt t x j (first + j) (get_or outputs j d)
output_at t ts k first j x outputs d r same less is place concrete listed below =
    let at : slice_get t.tasks k ≡ Some x = task_there t ts k x same less is in
    let inside : j < length x.outputs = omega (arith, below, ap length listed) in
    let there = output_there t k j x r at concrete inside in
    let here : first + j ≡ count_before k t.tasks + j = omega (arith, place) in
    let want : slice_get x.outputs j ≡ Some (get_or outputs j d) =
    slice_get-get_or x.outputs j d inside ∙ ap (λ (l : List Ty). Some (get_or l j d)) (sym listed) in
    record {
      within = omega (arith, there, here);
      few = omega (arith, there, here, few_functions t r);
      types = ap (slice_get (function_types t)) here ∙ output_types_at t k j x (get_or outputs j d) at concrete want;
    }

pub outputs_count : (t : Tables) (ts : List Task) (k : ℕ) (x : Task) → ts ≡ t.tasks → k < length t.tasks → x ≡ get_or ts k x → count_at (slice_get t.tasks k) ≡ function_count x
outputs_count t ts k x same less is = ap count_at (task_there t ts k x same less is)

pub concrete_count : (x : Task) → x.is_abstract ≡ false → function_count x ≡ length x.outputs
concrete_count x e = ap (λ (b : Bool). cond b 0 (length x.outputs)) e

-- ---- tasks, and then switches

pub tasks_of : (t u : Tables) (ts : List Task) → t ≡ u → ts ≡ u.tasks → ts ≡ t.tasks
tasks_of t u ts same e = e ∙ sym (ap (λ (v : Tables). v.tasks) same)

next_count : (t : Tables) (ts : List Task) (k : ℕ) (x : Task) → ts ≡ t.tasks → k < length ts → x ≡ get_or ts k x → count_before (k + 1) t.tasks ≡ count_before k t.tasks + function_count x
next_count t ts k x same less is =
    let inside : k < length t.tasks = omega (arith, less, ap length same) in
    let here = outputs_count t ts k x same inside is in
    let next : count_before (k + 1) t.tasks ≡ count_before k t.tasks + count_at (slice_get t.tasks k) = ap (λ (n : ℕ). count_before n t.tasks) (add-one k) in
    omega (arith, here, next)

count_bound : (t : Tables) (k : ℕ) → AreInRange t → k ≤ length t.tasks → count_before k t.tasks ≤ 1048576
count_bound t k r within = omega (arith, count_small t k r, within, r.few_tasks)

-- behind the functions of a task come those of the next, and their place is among few
pub place_behind_task : (t u : Tables) (ts : List Task) (k id count : ℕ) (x : Task) → t ≡ u → ts ≡ u.tasks → AreInRange t → k < length ts → x ≡ get_or ts k x → id ≡ count_before k t.tasks → count ≡ function_count x
    → (id + count ≡ count_before (k + 1) t.tasks) × (id + count ≤ 1048576)
place_behind_task t u ts k id count x same e r less is place counted =
    let tasks = tasks_of t u ts same e in
    let next = next_count t ts k x tasks less is in
    let bound = count_bound t (k + 1) r (omega (arith, less, ap length tasks)) in
    (omega (arith, place, counted, next), omega (arith, place, counted, next, bound))

pub at_end : (t : Tables) (ts : List Task) (id k : ℕ) → ts ≡ t.tasks → id ≡ count_before k t.tasks → k ≤ length ts → length ts ≤ k → id ≡ count_before (length t.tasks) t.tasks
at_end t ts id k same is most least =
    let e : k ≡ length t.tasks = omega (arith, most, least, ap length same) in
    is ∙ ap (λ (n : ℕ). count_before n t.tasks) e

pub switch_type_at : (t : Tables) (ws : List Switch) (k id : ℕ) (w : Switch) (args : List Ty) → ws ≡ t.switches → k < length t.switches → w ≡ get_or ws k w
    → id ≡ count_before (length t.tasks) t.tasks + k → args ≡ map (comm_type t) w.reads → slice_get (function_types t) id ≡ Some (output_type args BoolTy)
switch_type_at t ws k id w args same less is place types =
    let at : slice_get t.switches k ≡ Some w =
    slice_get-get_or t.switches k w less ∙ ap (λ (y : Switch). Some y) (ap (λ (l : List Switch). get_or l k w) (sym same) ∙ sym is) in
    ap (slice_get (function_types t)) place ∙ switch_types_at t k w at ∙ ap (λ (l : List Ty). Some (output_type l BoolTy)) (sym types)

-- the function at a place
pub function_at : (t : Tables) (fs : List Function) (id : ℕ) (f : Function) → t.functions ≡ map fun_of fs → id < length t.functions → f ≡ get_or fs id f → slice_get t.functions id ≡ Some (fun_of f)
function_at t fs id f same less is =
    let inside : id < length fs = omega (arith, less, ap length same, length-map fs fun_of) in
    ap (λ (l : List Fun). slice_get l id) same ∙ get_mapped fun_of fs id f (slice_get-get_or fs id f inside ∙ ap (λ (y : Function). Some y) (sym is))
