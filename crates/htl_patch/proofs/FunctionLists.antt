-- Functions in memory and in the tables.
use Rattle.std.proofs.Common.{◌≡◌, ◌≤◌, ◌<◌, ◌+◌, ℕ, zero, suc, false, List, [], ◌∷◌, ◌++◌, length, map, take, drop, get_or, slice_get, Some, All, refl, sym, ◌∙◌, ap, arith, append_assoc, append-nil}
use Rattle.htl_patch.proofs.Words.{flat_map, length-map, slice_get-get_or, length-list_to, get_list_to, AreInRange, IsTaskInRange, Tables, Fun, fun_of, function_count, count_at, count_before, Function, Task, task_there, IsFunctionCode, first_function, firsts_of, functions_of, all_at, get_mapped}
use Rattle.htl_patch.proofs.{Members.none, Members.map_append, Counting.count_within}

-- a function in memory is one of the tables
pub function_there : (fs : List Fun) (held : List Function) (k : ℕ) (f : Function) → fs ≡ map fun_of held → k < length fs → f ≡ get_or held k f → slice_get fs k ≡ Some (fun_of f)
function_there fs held k f same less is =
    let size = ap length same in
    let count = length-map held fun_of in
    ap (λ (xs : List Fun). slice_get xs k) same
    ∙ get_mapped fun_of held k f (slice_get-get_or held k f (omega (arith, less, size, count)) ∙ ap (λ (x : Function). Some x) (sym is))

pub function_is_code : (fs : List Fun) (held : List Function) (k : ℕ) (f : Function) → All IsFunctionCode fs → fs ≡ map fun_of held → k < length fs → f ≡ get_or held k f → IsFunctionCode (fun_of f)
function_is_code fs held k f all same less is = all_at IsFunctionCode fs k (fun_of f) all (function_there fs held k f same less is)

take_one : {A : Type 0} (first k : ℕ) (xs : List A) (x : A) → slice_get xs (first + k) ≡ Some x → take (k + 1) (drop first xs) ≡ take k (drop first xs) ++ x ∷ []
take_one {A} zero k xs x e =
    let same : 0 + k ≡ k = omega arith in
    let next : k + 1 ≡ suc k = omega arith in
    ap (λ (n : ℕ). take n xs) next ∙ front k xs (ap (slice_get xs) (sym same) ∙ e)
  where
    front : (k : ℕ) (xs : List A) → slice_get xs k ≡ Some x → take (suc k) xs ≡ take k xs ++ x ∷ []
    front k [] e = absurd (none x k e)
    front zero (y ∷ ys) e = let is : y ≡ x = cc in ap (λ z. z ∷ take 0 ys) is ∙ ap (λ zs. x ∷ zs) (nothing ys)
      where
        nothing : (ys : List A) → take 0 ys ≡ []
        nothing [] = refl
        nothing (y ∷ ys) = refl
    front (suc k) (y ∷ ys) e = ap (λ zs. y ∷ zs) (front k ys e)
take_one (suc first) k [] x e = absurd (none x (suc first + k) e)
take_one (suc first) k (y ∷ ys) x e =
    let same : suc first + k ≡ suc (first + k) = omega arith in take_one first k ys x (ap (slice_get (y ∷ ys)) (sym same) ∙ e)

-- one more function behind others
pub function_pushed : (fs initial : List Fun) (held before after : List Function) (first k id : ℕ) (f g : Function) → fs ≡ map fun_of held → id < length fs → id ≡ first + k → f ≡ get_or held id f
    → fun_of g ≡ fun_of f → after ≡ before ++ g ∷ [] → map fun_of before ≡ initial ++ take k (drop first fs)
    → map fun_of after ≡ initial ++ take (k + 1) (drop first fs)
function_pushed fs initial held before after first k id f g same less is at copy pushed going =
    let there : slice_get fs (first + k) ≡ Some (fun_of f) = ap (slice_get fs) (sym is) ∙ function_there fs held id f same less at in
    ap (map fun_of) pushed ∙ map_append fun_of before (g ∷ [])
    ∙ ap (λ (xs : List Fun). xs ++ fun_of g ∷ []) going
    ∙ ap (λ (x : Fun). (initial ++ take k (drop first fs)) ++ x ∷ []) copy
    ∙ append_assoc initial (take k (drop first fs)) (fun_of f ∷ [])
    ∙ ap (λ (xs : List Fun). initial ++ xs) (sym (take_one first k fs (fun_of f) there))

-- ---- the functions of a task

pub outputs_few : (t : Tables) (ts : List Task) (k : ℕ) (x : Task) → AreInRange t → ts ≡ t.tasks → k < length t.tasks → x ≡ get_or ts k x
    → (length x.outputs ≤ 256) × (count_at (slice_get t.tasks k) ≡ function_count x)
outputs_few t ts k x r same less is =
    let there = task_there t ts k x same less is in
    ((all_at (IsTaskInRange t) t.tasks k x r.tasks there).few_outputs, ap count_at there)

pub firsts_size : (t : Tables) (firsts : List ℕ) (k : ℕ) → firsts ≡ firsts_of t → k < length t.tasks → k < length firsts
firsts_size t firsts k is less =
    let size = ap length is in
    let count = length-list_to (first_function t) (length t.tasks) in omega (arith, size, count, less)

pub task_functions : (t : Tables) (firsts : List ℕ) (k count : ℕ) → AreInRange t → firsts ≡ firsts_of t → k < length t.tasks → count ≡ count_at (slice_get t.tasks k)
    → (get_or firsts k 0 + count ≤ length t.functions) × (take count (drop (get_or firsts k 0) t.functions) ≡ functions_of t k)
task_functions t firsts k count r is less many =
    let first : get_or firsts k 0 ≡ count_before k t.tasks = ap (λ (xs : List ℕ). get_or xs k 0) is ∙ get_list_to (first_function t) (length t.tasks) k 0 less in
    let x : Task = get_or t.tasks k (record { name = []; «module» = 0; is_abstract = false; worst = 0; inputs = []; outputs = [] }) in
    let there : slice_get t.tasks k ≡ Some x = slice_get-get_or t.tasks k (record { name = []; «module» = 0; is_abstract = false; worst = 0; inputs = []; outputs = [] }) less in
    let fits = count_within t.tasks k x there in
    let here = ap count_at there in
    let all = r.function_count in (
      omega (arith, first, fits, here, many, all),
      ap (λ (n : ℕ). take n (drop (get_or firsts k 0) t.functions)) many ∙ ap (λ (n : ℕ). take (count_at (slice_get t.tasks k)) (drop n t.functions)) first,
    )

-- what one more number gives stands behind
pub flat_more : {A : Type 0} (f : ℕ → List A) (keys : List ℕ) (k : ℕ) (before after initial : List A) → k < length keys → after ≡ before ++ f (get_or keys k 0) → before ≡ initial ++ flat_map f (take k keys)
    → after ≡ initial ++ flat_map f (take (k + 1) keys)
flat_more f keys k before after initial less is going =
    let next : suc k ≡ k + 1 = omega arith in
    is ∙ ap (λ xs. xs ++ f (get_or keys k 0)) going ∙ append_assoc initial (flat_map f (take k keys)) (f (get_or keys k 0)) ∙ ap (λ xs. initial ++ xs) (sym (one keys k less))
    ∙ ap (λ (n : ℕ). initial ++ flat_map f (take n keys)) next
  where
    none : (xs : List ℕ) → flat_map f (take 0 xs) ≡ []
    none [] = refl
    none (x ∷ xs) = refl

    one : (keys : List ℕ) (k : ℕ) → k < length keys → flat_map f (take (suc k) keys) ≡ flat_map f (take k keys) ++ f (get_or keys k 0)
    one [] k less = absurd (omega (arith, less))
    one (x ∷ xs) zero less = ap (λ ys. f x ++ ys) (none xs) ∙ append-nil (f x)
    one (x ∷ xs) (suc k) less = ap (λ ys. f x ++ ys) (one xs k (omega (arith, less))) ∙ sym (append_assoc (f x) (flat_map f (take k xs)) (f (get_or xs k 0)))

pub map_more : {A B : Type 0} (f : B → A) (keys : List B) (d : B) (k : ℕ) (before after initial : List A) → k < length keys → after ≡ before ++ f (get_or keys k d) ∷ []
    → before ≡ initial ++ map f (take k keys) → after ≡ initial ++ map f (take (k + 1) keys)
map_more {A} {B} f keys d k before after initial less is going =
    let next : suc k ≡ k + 1 = omega arith in
    is ∙ ap (λ xs. xs ++ f (get_or keys k d) ∷ []) going ∙ append_assoc initial (map f (take k keys)) (f (get_or keys k d) ∷ []) ∙ ap (λ xs. initial ++ xs) (sym (one keys k less))
    ∙ ap (λ (n : ℕ). initial ++ map f (take n keys)) next
  where
    none : (xs : List B) → map f (take 0 xs) ≡ []
    none [] = refl
    none (x ∷ xs) = refl

    one : (keys : List B) (k : ℕ) → k < length keys → map f (take (suc k) keys) ≡ map f (take k keys) ++ f (get_or keys k d) ∷ []
    one [] k less = absurd (omega (arith, less))
    one (x ∷ xs) zero less = ap (λ ys. f x ∷ ys) (none xs)
    one (x ∷ xs) (suc k) less = ap (λ ys. f x ∷ ys) (one xs k (omega (arith, less)))
