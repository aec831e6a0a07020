-- Tasks with another worst case at a place are the same tasks in all else.
use Rattle.std.proofs.Common.{◌≡◌, ℕ, zero, suc, ◌<◌, List, [], ◌∷◌, length, map, get_or, slice_get, slice_set, Some, refl, ap, ◌∙◌, arith}
use Rattle.htl_edf.proofs.Words.{same_Some, Tables, worst_in, with_worst}
use Rattle.htl_model.proofs.Words.{count_at, count_before}
use Rattle.htl_model.specs.declared.parts.Task.{Task}

pub length-worst_in : (w k : ℕ) (ts : List Task) → length (worst_in w k ts) ≡ length ts
length-worst_in w k [] = refl
length-worst_in w zero (x ∷ xs) = refl
length-worst_in w (suc k) (x ∷ xs) = ap suc (length-worst_in w k xs)

-- what doesn't look at the worst case is as it was
pub map-worst_in : {B : Type 0} (f : Task → B) → ((x : Task) (w : ℕ) → f (record x { worst = w }) ≡ f x) → (w k : ℕ) (ts : List Task) → map f (worst_in w k ts) ≡ map f ts
map-worst_in f same w k [] = refl
map-worst_in {B} f same w zero (x ∷ xs) = ap (λ (b : B). b ∷ map f xs) (same x w)
map-worst_in {B} f same w (suc k) (x ∷ xs) = ap (λ (bs : List B). f x ∷ bs) (map-worst_in f same w k xs)

count_at-worst_in : (w k : ℕ) (ts : List Task) (n : ℕ) → count_at (slice_get (worst_in w k ts) n) ≡ count_at (slice_get ts n)
count_at-worst_in w k [] n = refl
count_at-worst_in w zero (x ∷ xs) zero = refl
count_at-worst_in w (suc k) (x ∷ xs) (suc n) = count_at-worst_in w k xs n
count_at-worst_in w _ (x ∷ xs) _ = refl

pub count_before-worst_in : (w k : ℕ) (ts : List Task) (n : ℕ) → count_before n (worst_in w k ts) ≡ count_before n ts
count_before-worst_in w k ts zero = refl
count_before-worst_in w k ts (suc n) = rw (count_before-worst_in w k ts n, count_at-worst_in w k ts n) refl

-- each task is there, of the same module
pub task_there : (w k : ℕ) (ts : List Task) (n : ℕ) (x : Task) → slice_get ts n ≡ Some x → (y : Task) × (slice_get (worst_in w k ts) n ≡ Some y) × (y.«module» ≡ x.«module»)
task_there w k [] n x at = (x, at, refl)
task_there w zero (y ∷ ys) zero x at = (record y { worst = w }, refl, ap (λ (z : Task). z.«module») (same_Some _ _ at))
task_there w (suc k) (y ∷ ys) (suc n) x at = task_there w k ys n x at
task_there w _ (y ∷ ys) _ x at = (x, at, refl)

-- the later worst case counts
pub worst_in-twice : (v w k : ℕ) (ts : List Task) → worst_in w k (worst_in v k ts) ≡ worst_in w k ts
worst_in-twice v w k [] = refl
worst_in-twice v w zero (x ∷ xs) = refl
worst_in-twice v w (suc k) (x ∷ xs) = ap (λ (ys : List Task). x ∷ ys) (worst_in-twice v w k xs)

pub with_worst-twice : (t : Tables) (task v w : ℕ) → with_worst (with_worst t task v) task w ≡ with_worst t task w
with_worst-twice t task v w = ap (λ (ts : List Task). record t { tasks = ts }) (worst_in-twice v w task t.tasks)

-- to set it in the item is to set it in the list
pub worst_in-set : (w k : ℕ) (x : Task) (ts : List Task) → x ≡ get_or ts k x → k < length ts → slice_set ts k (record x { worst = w }) ≡ worst_in w k ts
worst_in-set w k x [] is l = absurd (omega (arith, l))
worst_in-set w zero x (y ∷ ys) is l = ap (λ (z : Task). record z { worst = w } ∷ ys) is
worst_in-set w (suc k) x (y ∷ ys) is l = ap (λ (zs : List Task). y ∷ zs) (worst_in-set w k x ys is (omega (arith, l)))

pub worst_in-put : (w k : ℕ) (x : Task) (ts us : List Task) → ts ≡ us → x ≡ get_or ts k x → k < length us → slice_set ts k (record x { worst = w }) ≡ worst_in w k us
worst_in-put w k x ts us e is l =
    ap (λ (vs : List Task). slice_set vs k (record x { worst = w })) e ∙ worst_in-set w k x us (is ∙ ap (λ (vs : List Task). get_or vs k x) e) l

pub raised_again : (t u : Tables) (task v w : ℕ) → u ≡ with_worst t task v → with_worst u task w ≡ with_worst t task w
raised_again t u task v w e = ap (λ (z : Tables). with_worst z task w) e ∙ with_worst-twice t task v w

pub task_stays : (t u : Tables) (task v : ℕ) → u ≡ with_worst t task v → task < length t.tasks → task < length u.tasks
task_stays t u task v e l = omega (arith, l, ap (λ (z : Tables). length z.tasks) e, length-worst_in v task t.tasks)
