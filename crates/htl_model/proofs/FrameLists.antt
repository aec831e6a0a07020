-- A frame is made of modules, modes and invocations: tables that share these three lists have the same frame, the same paths, and the
-- same limits.
use Rattle.std.proofs.Common.{arith, ◌≡◌, ℕ, ◌+◌, ◌*◌, ◌/◌, ◌%◌, min, max, cond, eqb, ltb, List, [], ◌∷◌, ◌++◌, length, map, get_or, Option, Some, refl, ◌∙◌, ap, ap₂}
use mathlib.Core.Path.{fun_ext}
use Rattle.htl_model.proofs.Words.{flat_map, starts, unit_period, common_multiple, rounds_of, rounds_at, rounds, choices, paths, mode_in, radices, places_of, places_in, path_places, most_invs, most_positions, too_long, last_of, exceeds, or_else, other_limit, frame_limit, root_modules, modes_of, invs_of, Tables, Place, Round}
use Rattle.htl_model.proofs.FrameLimits.{limit_by, limit_of}

-- the tables with these three lists alone
abbrev pub framed : Tables → Tables
framed t = record { comms = []; modes = t.modes; modules = t.modules; ports = []; tasks = []; invs = t.invs; switches = []; functions = [] }

module _ (t : Tables) where
  pub rounds_of_framed : (a : ℕ) (us : List ℕ) → rounds_of t a us ≡ rounds_of (framed t) a us
  rounds_of_framed a [] = refl
  rounds_of_framed a (u ∷ us) = ap (λ (rest : List Round). cond (eqb (a % unit_period t u) 0) (record { at = a; unit = u } ∷ rest) rest) (rounds_of_framed a us)

  pub rounds_framed : rounds t ≡ rounds (framed t)
  rounds_framed = ap (λ (f : ℕ → List Round). flat_map f (starts t)) (fun_ext (λ a. rounds_of_framed a (root_modules t)))

  pub choices_framed : (rs : List Round) → choices t rs ≡ choices (framed t) rs
  choices_framed [] = refl
  choices_framed (r ∷ rs) = ap (λ (n : ℕ). length (modes_of t r.unit) * n) (choices_framed rs)

  pub all_choices_framed : choices t (rounds t) ≡ choices (framed t) (rounds (framed t))
  all_choices_framed = ap (choices t) rounds_framed ∙ choices_framed (rounds (framed t))

  pub paths_framed : paths t ≡ paths (framed t)
  paths_framed = ap (λ (n : ℕ). elim (root_modules t) as (λ _. ℕ) [ [] ↦ 0 | u ∷ us ↦ n ]) all_choices_framed

  pub radices_framed : radices t ≡ radices (framed t)
  radices_framed = ap (λ (f : ℕ → ℕ). map f (starts t)) (fun_ext (λ a. ap (choices t) (rounds_of_framed a (root_modules t)) ∙ choices_framed (rounds_at (framed t) a)))

  places_in_framed : (path : ℕ) (rs : List Round) → places_in t path rs ≡ places_in (framed t) path rs
  places_in_framed path [] = refl
  places_in_framed path (r ∷ rs) = grind (arith, choices_framed, places_in_framed path rs)

  pub path_places_framed : (path : ℕ) → path_places t path ≡ path_places (framed t) path
  path_places_framed path = ap (places_in t path) rounds_framed ∙ places_in_framed path (rounds (framed t))

  -- ---- limits

  too_long_framed : (m : ℕ) (us : List ℕ) → too_long t m us ≡ too_long (framed t) m us
  too_long_framed m [] = refl
  too_long_framed m (u ∷ us) = let n = common_multiple m (unit_period t u) in ap (λ (o : Option (ℕ × ℕ)). cond (ltb 1000000 n) (Some (u, n)) o) (too_long_framed n us)

  most_invs_framed : (ms : List ℕ) → most_invs t ms ≡ most_invs (framed t) ms
  most_invs_framed [] = refl
  most_invs_framed (m ∷ ms) = ap (λ (n : ℕ). max (length (invs_of t m)) n) (most_invs_framed ms)

  most_framed : (rs : List Round) → most_positions t rs ≡ most_positions (framed t) rs
  most_framed [] = refl
  most_framed (r ∷ rs) = grind (arith, most_invs_framed, most_framed rs)

  pub all_most_framed : most_positions t (rounds t) ≡ most_positions (framed t) (rounds (framed t))
  all_most_framed = ap (most_positions t) rounds_framed ∙ most_framed (rounds (framed t))

  other_framed : other_limit t ≡ other_limit (framed t)
  other_framed = grind (arith, all_choices_framed, all_most_framed)

  pub limit_framed : frame_limit t ≡ frame_limit (framed t)
  limit_framed = grind (arith, too_long_framed, other_framed)
