-- Laws of selections: modules in range have modes, and a cap on the choices changes no quotient.
use Rattle.std.proofs.Common.{◌≡◌, ◌≤◌, ◌<◌, ◌+◌, ◌-◌, ◌*◌, ◌/◌, ◌%◌, ◌^◌, ℕ, zero, suc, Bool, true, false, cond, List, [], ◌∷◌, ◌++◌, length, drop, get_or, slice_get, Option, Some, None, min, refl, sym, subst, ◌∙◌, ap, arith, inl, inr, length-drop, IfSome, eq-eqb}
use Rattle.std.specs.List.{flat_map, All}
use Rattle.htl_model.proofs.Words.{All-append, All-get_or, count_by, sum_by-cons, All-from_get_or, div-eq_of_lt, mul-lt, slice_get_cases, slice_get-get_or, Module, places_from, Task, Tables, mode_period, function_count, count_at, count_before, AreInRange, IsModeThat, is_root, mode_of_module, modes_of, choices_from, root_mode, invs_of, root_modules, root_period, inv_of_mode, positions, cases_lt}

-- ---- places that pass a test

on_front : (b : Bool) (k : ℕ) (rest : List ℕ) → 0 < length rest → 0 < length (cond b (k ∷ rest) rest)
on_front true k rest h = omega arith
on_front false k rest h = h

pub count_places : {A : Type 0} (test : A → Bool) (k : ℕ) (xs : List A) → length (places_from test k xs) ≡ count_by test xs
count_places test k [] = refl
count_places test k (x ∷ xs) =
    let rest = count_places test (suc k) xs in
    let first = sum_by-cons (λ y. cond (test y) 1 0) x xs in
    grind arith

pub places_some : {A : Type 0} (test : A → Bool) (k p : ℕ) (xs : List A) (x : A) → slice_get xs p ≡ Some x → test x ≡ true → 0 < length (places_from test k xs)
places_some test k p [] x e f = cc
places_some test k zero (y ∷ ys) x e f = grind arith
places_some test k (suc p) (y ∷ ys) x e f = on_front (test y) k (places_from test (suc k) ys) (places_some test (suc k) p ys x e f)

-- p is the place, counted from k, of an item that passes
abbrev pub Passes : {A : Type 0} → (A → Bool) → ℕ → List A → ℕ → Type 0
Passes test k xs p = (q : ℕ) × (p ≡ k + q) × (x : _) × (slice_get xs q ≡ Some x) × (test x ≡ true)

pub place_passes : {A : Type 0} (test : A → Bool) (k j p : ℕ) (xs : List A) → slice_get (places_from test k xs) j ≡ Some p → Passes test k xs p
place_passes test k j p [] e = cc
place_passes test k j p (x ∷ xs) e = by (test x) refl j (λ i f. place_passes test (suc k) i p xs f) e
  where
    later : Passes test (suc k) xs p → Passes test k (x ∷ xs) p
    later h = (suc h.0, omega (arith, h.1), h.2, h.3, h.4)

    by : (b : Bool) → test x ≡ b → (j : ℕ) → ((i : ℕ) → slice_get (places_from test (suc k) xs) i ≡ Some p → Passes test (suc k) xs p)
        → slice_get (cond b (k ∷ places_from test (suc k) xs) (places_from test (suc k) xs)) j ≡ Some p → Passes test k (x ∷ xs) p
    by true is zero rest f = let same : k ≡ p = cc in (0, omega arith, x, refl, is)
    by true is (suc i) rest f = later (rest i f)
    by false is i rest f = later (rest i f)

-- what passes from 0 on
pub place_passes_0 : {A : Type 0} (test : A → Bool) (j p : ℕ) (xs : List A) → slice_get (places_from test 0 xs) j ≡ Some p → (x : A) × (slice_get xs p ≡ Some x) × (test x ≡ true)
place_passes_0 test j p xs e = grind (arith, place_passes)

-- ---- modes of a module in range

pub modes_some : (t : Tables) (k : ℕ) → AreInRange t → k < length t.modules → 0 < length (modes_of t k)
modes_some t k r h = elim (slice_get_cases t.modules k).1 [
  | inl c ↦
      let start = (r.modules k c.0 c.2).start in
      places_some (mode_of_module k) 0 c.0.start t.modes start.0 start.1 (eq-eqb start.0.«module» k start.2)
  | inr c ↦ absurd (omega (arith, c.0))
]

some_choices : (b : Bool) (n m : ℕ) → 0 < n → 0 < m → 0 < cond b n 1 * m
some_choices true n m h k = mul-lt 0 0 n m h k
some_choices false n m h k = omega arith

pub choices_some : (t : Tables) (k : ℕ) (xs : List Module) → ((j : ℕ) → j < length xs → 0 < length (modes_of t (k + j))) → 0 < choices_from t k xs
choices_some t k [] h = omega arith
choices_some t k (x ∷ xs) h =
    some_choices (is_root x) (length (modes_of t k)) (choices_from t (suc k) xs)
    (let z : k + 0 ≡ k = omega arith in subst (λ n. 0 < length (modes_of t n)) z (h 0 (omega arith)))
    (choices_some t (suc k) xs (λ j b. let z : k + suc j ≡ suc k + j = omega arith in subst (λ n. 0 < length (modes_of t n)) z (h (suc j) (omega arith))))

-- a quotient by a number of choices that is capped above the dividend is the quotient
pub capped_quotient : (sel c cap : ℕ) → sel < cap → 0 < c → sel / min c cap ≡ sel / c
capped_quotient sel c cap h k = grind (arith, cases_lt, div-eq_of_lt)

pub later_choices : (t : Tables) (u : ℕ) → AreInRange t → u < length t.modules → 0 < choices_from t (u + 1) (drop (u + 1) t.modules)
later_choices t u r h = choices_some t (u + 1) (drop (u + 1) t.modules) (λ j b. modes_some t (u + 1 + j) r (omega (arith, length-drop (u + 1) t.modules)))

-- the mode that is found with capped choices
pub root_mode_found : (t : Tables) (sel u later count mode : ℕ) → AreInRange t → u < length t.modules → sel < 2 ^ 64 - 1
    → later ≡ min (choices_from t (u + 1) (drop (u + 1) t.modules)) (2 ^ 64 - 1) → count ≡ length (modes_of t u)
    → mode ≡ get_or (modes_of t u) (sel / later % count) 0 → mode ≡ root_mode t sel u
root_mode_found t sel u later count mode r h small e f g = grind (arith, capped_quotient, later_choices)

-- ---- positions

pub cut_front : {A : Type 0} (f : ℕ → List A) (b : Bool) (k : ℕ) (rest : List ℕ) → flat_map f (cond b (k ∷ rest) rest) ≡ cond b (f k) [] ++ flat_map f rest
cut_front f true k rest = refl
cut_front f false k rest = refl

-- ---- the first root module

pub places_below : {A : Type 0} (test : A → Bool) (k j p : ℕ) (xs : List A) → slice_get (places_from test k xs) j ≡ Some p → p < k + length xs
places_below test k j p [] e = cc
places_below test k j p (x ∷ xs) e = by_test (test x) j (λ i f. places_below test (suc k) i p xs f) e
  where
    by_test : (b : Bool) (j : ℕ) → ((i : ℕ) → slice_get (places_from test (suc k) xs) i ≡ Some p → p < suc k + length xs)
        → slice_get (cond b (k ∷ places_from test (suc k) xs) (places_from test (suc k) xs)) j ≡ Some p → p < k + length (x ∷ xs)
    by_test true zero later f = let same : k ≡ p = cc in omega arith
    by_test true (suc i) later f = let r : p < suc k + length xs = later i f in omega arith
    by_test false i later f = let r : p < suc k + length xs = later i f in omega arith

root_without_parent : (t : Tables) (parent : Option ℕ) (x : Module) → x.parent ≡ parent → IfSome parent (IsModeThat t (λ owner. owner < 0)) → is_root x ≡ true
root_without_parent t None x e h = ap (λ (p : Option ℕ). elim p [ Some q ↦ false | None ↦ true ]) e
root_without_parent t (Some p) x e h = absurd (omega (arith, h.2))

-- the first module is a root module
pub no_modules : (t : Tables) (modules : List Module) → AreInRange t → modules ≡ t.modules → slice_get (places_from is_root 0 modules) 0 ≡ None → length modules ≡ 0
no_modules t [] r e f = refl
no_modules t (x ∷ xs) r e f =
    let range = r.modules 0 x (sym (ap (λ us. slice_get us 0) e)) in
    let root : is_root x ≡ true = root_without_parent t x.parent x refl range.parent in
    let first : slice_get (cond (is_root x) (0 ∷ places_from is_root 1 xs) (places_from is_root 1 xs)) 0 ≡ Some 0 = ap (λ (b : Bool). slice_get (cond b (0 ∷ places_from is_root 1 xs) (places_from is_root 1 xs)) 0) root in
    cc (first, f)

module _ (t : Tables) (u p : ℕ) where
  by_modes : (modes : List ℕ) → 0 < length modes → p ≡ mode_period t (get_or modes 0 0) → Some p ≡ elim modes [ [] ↦ None | m ∷ ms ↦ Some (mode_period t m) ]
  by_modes [] h e = absurd (omega arith)
  by_modes (m ∷ ms) h e = ap Some e

  by_roots : (roots : List ℕ) → slice_get roots 0 ≡ Some u → 0 < length (modes_of t u) → p ≡ mode_period t (get_or (modes_of t u) 0 0)
      → Some p ≡ elim roots [ [] ↦ None | v ∷ us ↦ elim (modes_of t v) [ [] ↦ None | m ∷ ms ↦ Some (mode_period t m) ] ]
  by_roots [] e some is = cc
  by_roots (v ∷ us) e some is = grind (arith, by_modes)

  pub root_period_is : AreInRange t → slice_get (root_modules t) 0 ≡ Some u → p ≡ mode_period t (get_or (modes_of t u) 0 0) → Some p ≡ root_period t
  root_period_is r e is = grind (arith, places_below, by_roots, modes_some)

-- ---- functions

pub count_grows : (m n : ℕ) (ts : List Task) → m ≤ n → count_before m ts ≤ count_before n ts
count_grows m zero ts h = let same : m ≡ 0 = omega arith in omega (arith, ap (λ k. count_before k ts) same)
count_grows m (suc n) ts h = elim (cases_lt n m) [
  | inl a ↦ let same : m ≡ suc n = omega arith in omega (arith, ap (λ k. count_before k ts) same)
  | inr a ↦ let less : count_before m ts ≤ count_before n ts = count_grows m n ts a in omega arith
]

-- the function of an output is one of the tables
pub output_within : (t : Tables) (task output : ℕ) → AreInRange t → task < length t.tasks → IfSome (slice_get t.tasks task) (λ k. output < function_count k) → count_before task t.tasks + output < length t.functions
output_within t task output r h below = elim (slice_get_cases t.tasks task).1 [
  | inl c ↦
      let less : output < function_count c.0 = subst (λ o. IfSome o (λ k. output < function_count k)) c.2 below in
      let next : count_before (suc task) t.tasks ≡ count_before task t.tasks + function_count c.0 = ap (λ o. count_before task t.tasks + count_at o) c.2 in
      omega (arith, count_grows (suc task) (length t.tasks) t.tasks h, r.function_count)
  | inr c ↦ absurd (omega (arith, c.0))
]

-- ---- what is found is in range

pub all_places_below : {A : Type 0} (test : A → Bool) (xs : List A) → All (λ p. p < length xs) (places_from test 0 xs)
all_places_below test xs = grind (arith, All-from_get_or, places_below, slice_get-get_or)

all_flat_map : (n : ℕ) (f : ℕ → List ℕ) → ((u : ℕ) → All (λ p. p < n) (f u)) → (us : List ℕ) → All (λ p. p < n) (flat_map f us)
all_flat_map n f each [] = λ i d h. absurd (omega arith)
all_flat_map n f each (u ∷ us) = All-append (λ p. p < n) (f u) (flat_map f us) (each u) (all_flat_map n f each us)

pub root_mode_below : (t : Tables) (sel u : ℕ) → AreInRange t → u < length t.modules → root_mode t sel u < length t.modes
root_mode_below t sel u r h = grind (arith, modes_some, All-get_or, all_places_below)

pub position_below : (t : Tables) (sel p : ℕ) → p < length (positions t sel) → get_or (positions t sel) p 0 < length t.invs
position_below t sel p h = grind (arith, All-get_or, all_flat_map, all_places_below)
