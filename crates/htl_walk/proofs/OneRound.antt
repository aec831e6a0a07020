-- Where all root modules have one period no limit of frames is exceeded, and a path is accepted exactly where its root selection is.
use Rattle.std.proofs.Common.{◌≡◌, ℕ, ◌+◌, ◌*◌, ◌≤◌, ◌<◌, ◌⊎◌, min, Bool, false, cond, ltb, List, [], ◌∷◌, length, map, get_or, slice_get, Option, Some, None, option_map, refl, sym, ap, ◌∙◌, subst, arith, inl, inr}
use Rattle.htl_walk.proofs.Words.{nat_tests, length-map, slice_get-get_or, one_divides, rounds_have, kept_apart, not_exceeded, rest_is, limit_none, limit_rest, KeptTo, KeepsLimits, common_multiple, multiple_of, unit_period, starts_below, starts, rounds, rounds_at, choices, paths, nodes, node, nodes_of, path_places, most_positions, too_long, frame_limit, other_limit, list_to, AreInRange, root_modules, choices_from, selection_count, positions, round_length, Tables, Place, AllHave, RootsHaveOnePeriod, HasOnePeriod, AreRounds, AreFeasible, lists_of, abstract_jobs, path_jobs, legs, whole, Leg, IsPathAccepted, ScheduleIsAccepted, Job, SInstr}
use Rattle.htl_walk.proofs.{Accepted.one_list_accepted, EqualPeriods.first_round, EqualPeriods.one_round as round_period, OnePeriod.same_multiple, OnePeriod.one_period, WidestPath.widest_path}

-- ---- without modules

no_nodes : (t : Tables) (us : List ℕ) → root_modules t ≡ us → length us ≡ 0 → nodes t ≡ selection_count t
no_nodes t [] is none = grind arith
no_nodes t (u ∷ us) is none = absurd (omega (arith, none))

pub no_selection : (t : Tables) (us : List ℕ) → root_modules t ≡ us → length us ≡ 0 → (sel : ℕ) → sel < selection_count t → ⊥
no_selection t [] is none sel below = grind arith
no_selection t (u ∷ us) is none sel below = absurd (omega (arith, none))

no_paths : (t : Tables) (us : List ℕ) → root_modules t ≡ us → length us ≡ 0 → (path : ℕ) → path < paths t → ⊥
no_paths t [] is none path below = let z : paths t ≡ 0 = ap (λ (vs : List ℕ). elim vs as (λ _. ℕ) [ [] ↦ 0 | k ∷ ks ↦ choices t (rounds t) ]) is in omega (arith, z, below)
no_paths t (u ∷ us) is none path below = absurd (omega (arith, none))

-- ---- one period

module _ (t : Tables) (r : AreInRange t) (kept : KeptTo t 12) (one : RootsHaveOnePeriod t) where
  module _ (some : 0 < length (root_modules t)) where
    first_root : slice_get (root_modules t) 0 ≡ Some (get_or (root_modules t) 0 0)
    first_root = slice_get-get_or (root_modules t) 0 0 some

    pub one_round : HasOnePeriod t (round_length t)
    one_round = round_period t r (kept_apart t 12 kept) one some

    pub are_rounds : AreRounds t (round_length t)
    are_rounds = one_period t (round_length t) one_round

    -- no multiple is too long
    none_long : (us : List ℕ) (m : ℕ) → common_multiple m (round_length t) ≡ round_length t → AllHave t (round_length t) us → too_long t m us ≡ None
    none_long [] m e a = refl
    none_long (u ∷ us) m e a =
        let p : ℕ = round_length t in
        ap (λ (n : ℕ). cond (ltb 1000000 n) (Some (u, n)) (too_long t n us)) (ap (common_multiple m) a.0 ∙ e)
        ∙ ap (λ (b : Bool). cond b (Some (u, p)) (too_long t p us)) (small p (first_round t r (kept_apart t 12 kept) (get_or (root_modules t) 0 0) first_root).2)
        ∙ none_long us p (same_multiple p one_round.positive) a.1
      where
        small : (p : ℕ) → p ≤ 1000000 → ltb 1000000 p ≡ false
        small p l = grind (arith, nat_tests)

    chosen : (us : List ℕ) (n : ℕ) → 0 < length us → elim us as (λ _. ℕ) [ [] ↦ 0 | u ∷ vs ↦ n ] ≡ n
    chosen [] n l = absurd (omega (arith, l))
    chosen (u ∷ us) n l = refl

    -- so no limit of frames is exceeded
    some_limit : KeepsLimits t → frame_limit t ≡ None
    some_limit limits =
        let ways : choices t (rounds t) ≡ selection_count t = sym (chosen (root_modules t) (choices t (rounds t)) some) ∙ are_rounds.paths in
        let begins : length (starts t) ≡ 1 = ap length are_rounds.one_start in
        let w = widest_path t (rounds t) (rounds_have t r) in
        let most = w.1.1 w.0 0 (let z : w.0 ≡ 0 * choices t (rounds t) + w.0 = omega arith in z) in
        let here : length (path_places t w.0) ≡ length (positions t w.0) =
        ap (λ (xs : List Place). length xs) (are_rounds.positions w.0) ∙ length-map (positions t w.0) (λ (k : ℕ). let x : Place = record { inv = Some k; at = 0 } in x) in
        let few : most_positions t (rounds t) ≤ 128 = omega (arith, most, here, limits.positions w.0 (omega (arith, w.1.0, ways))) in
        let least : min (choices t (rounds t)) 4294967295 ≤ 1024 = omega (arith, ways, limits.selections) in
        let other : other_limit t ≡ None = rest_is t (omega (arith, begins)) least ∙ not_exceeded (most_positions t (rounds t)) 128 few in
        limit_rest t (root_modules t) refl some (none_long (root_modules t) 1 (one_divides (round_length t)) one_round.each) ∙ ap (option_map _) other

  pub none_or_some : (n : ℕ) → (n ≡ 0) ⊎ (0 < n)
  none_or_some n = grind arith

  pub no_limit : KeepsLimits t → frame_limit t ≡ None
  no_limit limits = elim (none_or_some (length (root_modules t))) [ inl none ↦ limit_none t none | inr some ↦ some_limit some limits ]

  -- there are as many nodes as root selections
  pub nodes_are : nodes t ≡ selection_count t
  nodes_are = elim (none_or_some (length (root_modules t))) [ inl none ↦ no_nodes t (root_modules t) refl none | inr some ↦ (are_rounds some).nodes ]

  -- where each root selection accepts its schedule, each path accepts its lists; and the other way round
  module _ (lists : List (List SInstr)) where
    -- the one list of a path
    one_of : AreRounds t (round_length t) → (path : ℕ) → path < selection_count t → lists_of t lists path ≡ get_or lists path [] ∷ []
    one_of a path inside = grind arith

    pub feasible : ((sel : ℕ) → sel < selection_count t → ScheduleIsAccepted (abstract_jobs t sel) (round_length t) (get_or lists sel [])) → AreFeasible t lists
    feasible each path below = grind (arith, none_or_some, no_paths, are_rounds, one_list_accepted, one_of)

    pub each_round : AreFeasible t lists → (sel : ℕ) → sel < selection_count t → ScheduleIsAccepted (abstract_jobs t sel) (round_length t) (get_or lists sel [])
    each_round all sel inside = elim (none_or_some (length (root_modules t))) [
      | inl none ↦ absurd (no_selection t (root_modules t) refl none sel inside)
      | inr some ↦ round_of_path (are_rounds some) sel inside (all sel (omega (arith, inside, (are_rounds some).paths)))
    ]
      where
        round_of_path : AreRounds t (round_length t) → (sel : ℕ) → sel < selection_count t → IsPathAccepted (path_jobs t sel) (legs t sel) (lists_of t lists sel)
            → ScheduleIsAccepted (abstract_jobs t sel) (round_length t) (get_or lists sel [])
        round_of_path a sel inside here =
            (one_list_accepted (abstract_jobs t sel) (round_length t) (get_or lists sel [])).0
            (subst (λ (ss : List (List SInstr)). IsPathAccepted (abstract_jobs t sel) (whole (round_length t) (length (abstract_jobs t sel)) ∷ []) ss) (one_of a sel inside)
            (subst (λ (gs : List Leg). IsPathAccepted (abstract_jobs t sel) gs (lists_of t lists sel)) (a.legs sel)
            (subst (λ (js : List Job). IsPathAccepted js (legs t sel) (lists_of t lists sel)) (a.jobs sel) here)))
