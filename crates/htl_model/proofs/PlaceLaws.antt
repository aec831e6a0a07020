-- The types of functions stand where the order of functions says.
use Rattle.std.proofs.Common.{◌≡◌, ◌<◌, ℕ, zero, suc, ◌+◌, Bool, true, false, cond, List, [], ◌∷◌, ◌++◌, length, map, take, drop, set, get_or, slice_get, Some, refl, sym, ◌∙◌, ap, add-one, arith, length-append}
use Rattle.htl_model.proofs.Words.{take-suc, take-suc-set, drop-set-lt, length-map, flat_map, Ty, Switch, Task, AreInRange, Tables, function_count, count_before, output_function, switch_function, FunctionType, output_type, task_types, switch_type, function_types, get_back, get_front, get_mapped}

-- ---- tasks

pub count_types : (k : Task) → length (task_types k) ≡ function_count k
count_types k = grind (arith, length-map)

pub count_more : (k : Task) (ts : List Task) (n : ℕ) → count_before (suc n) (k ∷ ts) ≡ function_count k + count_before n ts
count_more k ts zero = omega arith
count_more k ts (suc n) = let e : count_before (suc n) (k ∷ ts) ≡ function_count k + count_before n ts = count_more k ts n in omega (arith, e)

pub count_all : (ts : List Task) → length (flat_map task_types ts) ≡ count_before (length ts) ts
count_all [] = refl
count_all (k ∷ ts) = grind (arith, length-append, count_types, count_more, count_all ts)

-- there is a type for each function
pub count_function_types : (t : Tables) → AreInRange t → length (function_types t) ≡ length t.functions
count_function_types t r = grind (arith, length-append, length-map, count_all)

task_at : (ts : List Task) (n j : ℕ) (k : Task) (f : FunctionType) → slice_get ts n ≡ Some k → slice_get (task_types k) j ≡ Some f → slice_get (flat_map task_types ts) (count_before n ts + j) ≡ Some f
task_at [] n j k f e g = cc
task_at (x ∷ ts) zero j k f e g = grind (arith, get_front)
task_at (x ∷ ts) (suc n) j k f e g =
    let place : count_before (suc n) (x ∷ ts) + j ≡ length (task_types x) + (count_before n ts + j) = omega (arith, count_more x ts n, count_types x) in
    ap (slice_get (task_types x ++ flat_map task_types ts)) place ∙ get_back (task_types x) (flat_map task_types ts) (count_before n ts + j)
    ∙ task_at ts n j k f e g

concrete_types : (k : Task) (j : ℕ) (y : Ty) → k.is_abstract ≡ false → slice_get k.outputs j ≡ Some y → slice_get (task_types k) j ≡ Some (output_type k.inputs y)
concrete_types k j y c e = grind (arith, get_mapped)

-- the types of the function of an output
pub output_types_at : (t : Tables) (n j : ℕ) (k : Task) (y : Ty) → slice_get t.tasks n ≡ Some k → k.is_abstract ≡ false → slice_get k.outputs j ≡ Some y
    → slice_get (function_types t) (output_function t n j) ≡ Some (output_type k.inputs y)
output_types_at t n j k y e c g =
    let f : FunctionType = output_type k.inputs y in
    get_front (flat_map task_types t.tasks) (map (switch_type t) t.switches) (count_before n t.tasks + j) f (task_at t.tasks n j k f e (concrete_types k j y c g))

-- the types of the function of a switch
pub switch_types_at : (t : Tables) (n : ℕ) (w : Switch) → slice_get t.switches n ≡ Some w → slice_get (function_types t) (switch_function t n) ≡ Some (switch_type t w)
switch_types_at t n w e =
    let place : switch_function t n ≡ length (flat_map task_types t.tasks) + n = omega (arith, count_all t.tasks) in
    ap (slice_get (function_types t)) place ∙ get_back (flat_map task_types t.tasks) (map (switch_type t) t.switches) n ∙ get_mapped (switch_type t) t.switches n w e

-- ---- a buffer that is filled from the front

drop_first : {A : Type 0} (k : ℕ) (xs : List A) → drop (suc k) xs ≡ drop 1 (drop k xs)
drop_first zero xs = refl
drop_first (suc k) [] = refl
drop_first (suc k) (x ∷ xs) = drop_first k xs

-- the front of a buffer holds the types of the first reads, and one more
pub types_more : (f : ℕ → Ty) (reads : List ℕ) (types : List Ty) (k d : ℕ) → k < length reads → k < length types → take k types ≡ map f (take k reads)
    → take (k + 1) (set types k (f (get_or reads k d))) ≡ map f (take (k + 1) reads)
types_more f reads types k d below room front =
    let c = get_or reads k d in
    let reached : take (suc k) reads ≡ take k reads ++ c ∷ [] = take-suc reads k d below in
    ap (λ (n : ℕ). take n (set types k (f c))) (add-one k) ∙ take-suc-set types k (f c) room ∙ ap (λ (ts : List Ty). ts ++ f c ∷ []) front
    ∙ sym (ap (λ (n : ℕ). map f (take n reads)) (add-one k) ∙ ap (map f) reached ∙ map_end f (take k reads) c)
  where
    map_end : (f : ℕ → Ty) (xs : List ℕ) (c : ℕ) → map f (xs ++ c ∷ []) ≡ map f xs ++ f c ∷ []
    map_end f [] c = refl
    map_end f (x ∷ xs) c = ap (λ (ts : List Ty). f x ∷ ts) (map_end f xs c)

-- what lies behind is left as it was
pub rest_same : (types old : List Ty) (k : ℕ) (y : Ty) → drop k types ≡ drop k old → drop (k + 1) (set types k y) ≡ drop (k + 1) old
rest_same types old k y same = grind (arith, drop-set-lt, add-one, drop_first)
