-- The rounds that begin with the frame, one of each root module: their choice, their positions and their jobs.
use Rattle.std.proofs.Common.{◌≡◌, ℕ, suc, ◌+◌, ◌*◌, ◌%◌, Bool, true, false, cond, ◌&&◌, eqb, eq-eqb, List, [], ◌∷◌, ◌++◌, length, map, slice_get, Option, Some, None, refl, ap, ap₂, ◌∙◌, arith}
use Rattle.htl_refine.proofs.Words.{flat_map, Place, Round, Module, chosen, unit_period, rounds_of, choices, places_of, places_from, entry, is_root, root_modules, modes_of, invs_of, choices_from, Tables, is_fed_by, job_of, jobs_standing, placed_job, placed_jobs, job_at_start, places_join, new_jobs, choice_of, running_invs, running_positions, standing, concrete_jobs, derived_place, derived_jobs, start_places, standing_place, path_in, running_places, entry_place, selection_from, selection_of}

-- ---- the rounds

abbrev pub first_round : ℕ → Round
first_round u = record { at = 0; unit = u }

pub rounds_first : (t : Tables) (us : List ℕ) → rounds_of t 0 us ≡ map first_round us
rounds_first t [] = refl
rounds_first t (u ∷ us) = let e : 0 % unit_period t u ≡ 0 = omega arith in rw e (ap (λ rs. first_round u ∷ rs) (rounds_first t us))

pub choices_first : (t : Tables) (k : ℕ) (ms : List Module) → choices t (map first_round (places_from is_root k ms)) ≡ choices_from t k ms
choices_first t k [] = refl
choices_first t k (m ∷ ms) = grind (arith, choices_first t (suc k) ms)

-- ---- the path

pub path_is : (t : Tables) (modes : ℕ → List (Option ℕ)) (k : ℕ) (ms : List Module) → path_in t modes (map first_round (places_from is_root k ms)) ≡ selection_from t (modes 0) k ms
path_is t modes k [] = refl
path_is t modes k (m ∷ ms) = by (is_root m) refl (path_is t modes (suc k) ms)
  where
    by : (b : Bool) → is_root m ≡ b → path_in t modes (map first_round (places_from is_root (suc k) ms)) ≡ selection_from t (modes 0) (suc k) ms
        → path_in t modes (map first_round (cond b (k ∷ places_from is_root (suc k) ms) (places_from is_root (suc k) ms)))
        ≡ cond b (entry_place t (modes 0) k * choices_from t (suc k) ms) 0 + selection_from t (modes 0) (suc k) ms
    by true e ih = ap₂ (λ c r. entry_place t (modes 0) k * c + r) (choices_first t (suc k) ms) ih
    by false e ih = ih ∙ (let z : selection_from t (modes 0) (suc k) ms ≡ 0 + selection_from t (modes 0) (suc k) ms = omega arith in z)

-- ---- the positions

pub places_are : (t : Tables) (modes : ℕ → List (Option ℕ)) (us : List ℕ) → running_places t modes (map first_round us) ≡ places_of 0 (flat_map (running_invs t (modes 0)) us)
places_are t modes [] = refl
places_are t modes (u ∷ us) = grind (arith, places_join, places_are t modes us)

abbrev pub at_first : List (Option ℕ) → List Place
at_first os = map (λ o. record { inv = o; at = 0 }) os

pub derived_are : (t : Tables) (modes : ℕ → List (Option ℕ)) (ks : List ℕ) → map (derived_place t modes) (places_of 0 ks) ≡ at_first (map (chosen t (modes 0)) ks)
derived_are t modes [] = refl
derived_are t modes (k ∷ ks) = ap (λ (xs : List Place). record { inv = chosen t (modes 0) k; at = 0 } ∷ xs) (derived_are t modes ks)

tests_are : (t : Tables) (k : ℕ) (os : List (Option ℕ)) → map (λ (y : Place). eqb y.at 0 && is_fed_by t k y.inv) (at_first os) ≡ map (is_fed_by t k) os
tests_are t k [] = refl
tests_are t k (o ∷ os) = ap (λ bs. is_fed_by t k o ∷ bs) (tests_are t k os)

job_is : (t : Tables) (os : List (Option ℕ)) (o : Option ℕ) → placed_job t (at_first os) (record { inv = o; at = 0 }) ≡ job_of t os o
job_is t os None = refl
job_is t os (Some k) = job_at_start t (at_first os) os k (tests_are t k os) (slice_get t.invs k)

jobs_are : (t : Tables) (all os : List (Option ℕ)) → map (placed_job t (at_first all)) (at_first os) ≡ map (job_of t all) os
jobs_are t all [] = refl
jobs_are t all (o ∷ os) = ap₂ (λ j js. j ∷ js) (job_is t all o) (jobs_are t all os)

pub jobs_first : (t : Tables) (os : List (Option ℕ)) → placed_jobs t (at_first os) ≡ jobs_standing t os
jobs_first t os = jobs_are t os os

-- ---- by the modes in which the modules are

pub concrete_are : (t : Tables) (modes : ℕ → List (Option ℕ)) → derived_jobs t modes (places_of 0 (running_positions t (modes 0))) ≡ concrete_jobs t (modes 0)
concrete_are t modes = ap (placed_jobs t) (derived_are t modes (running_positions t (modes 0))) ∙ jobs_first t (standing t (modes 0))

start_places_are : (t : Tables) (m : List (Option ℕ)) (us : List ℕ) → start_places t m 0 us ≡ places_of 0 (flat_map (running_invs t m) us)
start_places_are t m [] = refl
start_places_are t m (u ∷ us) = by (eqb (0 % unit_period t u) 0) (eq-eqb (0 % unit_period t u) 0 (omega arith)) (start_places_are t m us)
  where
    here : (o : Option ℕ) → elim o as (λ _. List Place) [ Some n ↦ places_of 0 (invs_of t n) | None ↦ [] ] ≡ places_of 0 (elim o as (λ _. List ℕ) [ Some n ↦ invs_of t n | None ↦ [] ])
    here None = refl
    here (Some n) = refl

    by : (b : Bool) → b ≡ true → start_places t m 0 us ≡ places_of 0 (flat_map (running_invs t m) us)
        → elim (cond b (entry m u) None) as (λ _. List Place) [ Some n ↦ places_of 0 (invs_of t n) | None ↦ [] ] ++ start_places t m 0 us ≡ places_of 0 (running_invs t m u ++ flat_map (running_invs t m) us)
    by true e later = ap₂ (λ xs ys. xs ++ ys) (here (entry m u)) later ∙ places_join (running_invs t m u) (flat_map (running_invs t m) us)
    by false e later = cc

pub new_are : (t : Tables) (m : List (Option ℕ)) → new_jobs t m 0 0 ≡ concrete_jobs t m
new_are t m = ap (λ xs. placed_jobs t (map (standing_place t m) xs)) (start_places_are t m (root_modules t)) ∙ concrete_are t (λ x. m)

pub choice_is : (t : Tables) (m : List (Option ℕ)) → choice_of t m 0 ≡ selection_of t m
choice_is t m = ap (path_in t (λ x. m)) (rounds_first t (root_modules t)) ∙ path_is t (λ x. m) 0 t.modules
