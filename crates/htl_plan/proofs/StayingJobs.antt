-- The jobs of the frame in which every module stays in its mode, start by start.
use Rattle.std.proofs.Common.{◌≡◌, ℕ, zero, suc, ◌+◌, ◌≤◌, ◌<◌, List, [], ◌∷◌, ◌++◌, length, take, drop, get_or, map, Option, Some, None, refl, sym, ap, ap₂, ◌∙◌, arith}
use Rattle.htl_plan.proofs.Words.{slice_get, flat_map, slice_get_within, get_or_from_slice_get, frame_limit, frame_of, known_by, root_periods, rounds, rounds_at, starts, root_modules, AreInRange, IsSelection, Tables, limits_kept, new_jobs, derived_place, frame_jobs, frame_places, path_of, running_places, rises_next, of_flat, first_jobs, next_jobs, paths_read, Job, placed_job, known_few, starts_rise, front_more, take_all, known_rises, starts_order, length-append, length-map, length-take}
use Rattle.htl_model.specs.declared.frame.Place.{Place}
use Rattle.htl_refine.proofs.RoundOrder.{of_rounds, run_of}

all_begun : (a : ℕ) (xs : List Place) → ((p : ℕ) (x : Place) → slice_get xs p ≡ Some x → x.at ≤ a) → known_by a xs ≡ length xs
all_begun a [] h = refl
all_begun a (x ∷ xs) h = grind (arith, h 0 x refl, all_begun a xs (λ p y e. h (suc p) y e))

module _ (t : Tables) (modes : List (Option ℕ)) where
  abbrev always : ℕ → List (Option ℕ)
  always a = modes

  abbrev all_jobs : List Job
  all_jobs = frame_jobs t always

  abbrev all_places : List Place
  all_places = frame_places t always

  -- how many positions have begun before start j
  abbrev pub begun_before : ℕ → ℕ
  begun_before zero = 0
  begun_before (suc j) = known_by (get_or (starts t) j 0) all_places

  pub job_count : length all_jobs ≡ length all_places
  job_count = length-map (map (derived_place t always) all_places) (placed_job t (map (derived_place t always) all_places)) ∙ length-map all_places (derived_place t always)

  begun_few : (j : ℕ) → begun_before j ≤ length all_places
  begun_few zero = omega arith
  begun_few (suc j) = known_few (get_or (starts t) j 0) all_places

  begun_rises : (j : ℕ) → j < length (starts t) → begun_before j ≤ begun_before (suc j)
  begun_rises zero l = omega arith
  begun_rises (suc j) l =
      let up = rises_next (root_periods t) (frame_of t) (starts t) j (starts_rise (root_periods t) (frame_of t)) l in
      known_rises (get_or (starts t) j 0) (get_or (starts t) (suc j) 0) all_places (omega (arith, up))

  -- those that begin at start j
  new_there : (j : ℕ) → j < length (starts t) → drop (begun_before j) (take (begun_before (suc j)) all_jobs) ≡ new_jobs t modes (get_or (starts t) j 0) (begun_before j)
  new_there zero l = first_jobs t always l
  new_there (suc j) l = next_jobs t always j l

  module _ (j n : ℕ) (there : j < length (starts t)) (before : n ≡ begun_before j) where
    new_here : take n all_jobs ++ new_jobs t modes (get_or (starts t) j 0) n ≡ take (begun_before (suc j)) all_jobs
    new_here =
        ap (λ m. take m all_jobs ++ new_jobs t modes (get_or (starts t) j 0) m) before
        ∙ ap (λ (js : List Job). take (begun_before j) all_jobs ++ js) (sym (new_there j there))
        ∙ front_more (begun_before j) (begun_before (suc j)) all_jobs (begun_rises j there)

    -- with them so many have begun
    pub more_begun : n + length (new_jobs t modes (get_or (starts t) j 0) n) ≡ begun_before (suc j)
    more_begun =
        let both = length-append (take n all_jobs) (new_jobs t modes (get_or (starts t) j 0) n) in
        let whole = ap (λ (js : List Job). length js) new_here in
        omega (arith, both, whole, length-take n all_jobs, length-take (begun_before (suc j)) all_jobs, job_count, begun_few j, begun_few (suc j), before)

    pub jobs_more : (a end : ℕ) (out new : List Job) → a ≡ get_or (starts t) j 0 → end ≡ begun_before (suc j) → take n out ≡ take n all_jobs → take end new ≡ take n out ++ new_jobs t modes a n
        → take end new ≡ take end all_jobs
    jobs_more a end out new at last front is =
        is ∙ ap₂ (λ (js : List Job) (b : ℕ). js ++ new_jobs t modes b n) front at ∙ new_here ∙ ap (λ m. take m all_jobs) (sym last)

  -- ---- all have begun

  module _ (last : ℕ) (is : suc last ≡ length (starts t)) where
    by_last : (p : ℕ) (x : Place) → slice_get all_places p ≡ Some x → x.at ≤ get_or (starts t) last 0
    by_last p x e =
        let r = run_of t always (rounds t) p x e in
        let m = of_flat (rounds_at t) (starts t) r.0 r.1 r.2 in
        let o = of_rounds t m.1 (root_modules t) m.3 r.1 m.4 in
        let inside = slice_get_within (starts t) m.0 m.1 m.2 in
        let up = starts_order (root_periods t) (frame_of t) (starts t) m.0 last (starts_rise (root_periods t) (frame_of t)) (omega (arith, is, inside)) (omega (arith, is)) in
        let here = ap (λ (y : Place). y.at) r.6 in
        omega (arith, here, o.2, get_or_from_slice_get (starts t) m.0 m.1 0 m.2, up)

  begun_all : (n : ℕ) → n ≡ length (starts t) → begun_before n ≡ length all_places
  begun_all zero e = sym (ap (λ (as' : List ℕ). length (running_places t always (flat_map (rounds_at t) as'))) (none (starts t) e))
    where
      none : (xs : List ℕ) → 0 ≡ length xs → xs ≡ []
      none [] e = refl
      none (x ∷ xs) e = absurd (omega (arith, e))
  begun_all (suc n) e = all_begun (get_or (starts t) n 0) all_places (by_last n e)

  pub jobs_all : (n end : ℕ) (out : List Job) → n ≡ length (starts t) → end ≡ begun_before n → take end out ≡ take end all_jobs → (take end out ≡ all_jobs) × (end ≡ length all_jobs)
  jobs_all n end out e last front =
      let whole : end ≡ length all_jobs = omega (arith, last, begun_all n e, job_count) in
      (front ∙ ap (λ m. take m all_jobs) whole ∙ take_all all_jobs, whole)

  -- ---- there is room

  module _ (range : AreInRange t) (limit : frame_limit t ≡ None) (selection : IsSelection t modes) where
    few_places : length all_places ≤ 128
    few_places = let same = ap (λ (xs : List Place). length xs) (paths_read t always (λ a. selection)).places in omega (arith, same, (limits_kept t range limit).positions (path_of t always))

    pub room : (j : ℕ) → begun_before j ≤ 128
    room j = omega (arith, begun_few j, few_places)
