-- The plan of a selection is the frame of the path on which every module stays in its mode.
use Rattle.std.proofs.Common.{◌≡◌, ℕ, ◌<◌, List, [], ◌∷◌, length, map, Option, Some, None, refl, sym, ap, ap₂, ◌∙◌, arith}
use Rattle.htl_plan.proofs.Words.{KeptApart, IsAccepted, Object, plan_line, choices, frame_of, hyper, multiple_of, path_places, paths, rounds, starts, unit_period, IsSelection, root_modules, Tables, paths_read, frame_jobs, frame_places, path_of, walk_of, Job, Schedule, lists_of, instrs_of, legs, legs_of, Leg, end_to_end, walk_path, worst_cases, frame_text, plan_text, staying_frame}
use Rattle.htl_model.specs.declared.frame.Place.{Place}
use Rattle.htl_plan.proofs.StayingJobs.{job_count}

-- an accepted object breaks no form rule
pub keeps_apart : (o : Object) (last : ℕ) → IsAccepted o → KeptApart o.tables last
keeps_apart o last accepted r s have need small other broken = accepted.spelled.formed.formed r s have need broken

-- where there is a frame, there are its paths
frame_paths : (t : Tables) (end : ℕ) → hyper t ≡ Some end → paths t ≡ choices t (rounds t)
frame_paths t end some = by (root_modules t) refl
  where
    by : (us : List ℕ) → root_modules t ≡ us → elim us as (λ _. ℕ) [ [] ↦ 0 | u ∷ vs ↦ choices t (rounds t) ] ≡ choices t (rounds t)
    by [] e =
        let none : hyper t ≡ None = ap (λ (us : List ℕ). elim (map (unit_period t) us) as (λ _. Option ℕ) [ [] ↦ None | p ∷ ps ↦ Some (multiple_of p ps) ]) e in
        absurd (let no : Some end ≡ None = sym some ∙ none in cc)
    by (u ∷ us) e = refl

module _ (t : Tables) (modes : List (Option ℕ)) (selection : IsSelection t modes) where
  abbrev always : ℕ → List (Option ℕ)
  always a = modes

  -- the path is one of those that there are
  pub path_inside : (end path : ℕ) → hyper t ≡ Some end → path ≡ path_of t always → path < paths t
  path_inside end path some is = omega (arith, is, (paths_read t always (λ a. selection)).below, frame_paths t end some)

  -- and has as many positions as the frame
  pub path_count : (path : ℕ) (jobs : List Job) → path ≡ path_of t always → jobs ≡ frame_jobs t always → length jobs ≡ length (path_places t path)
  path_count path jobs is jobs_are =
      ap (λ (js : List Job). length js) jobs_are ∙ job_count t modes ∙ ap (λ (xs : List Place). length xs) (paths_read t always (λ a. selection)).places
      ∙ ap (λ n. length (path_places t n)) (sym is)

  pub plan_is : (schedules : List Schedule) (end path : ℕ) (jobs : List Job) → hyper t ≡ Some end → path ≡ path_of t always → jobs ≡ frame_jobs t always
      → frame_text t end jobs (end_to_end (walk_path jobs (worst_cases jobs) (lists_of t (instrs_of schedules) path) (legs t path))) ≡ plan_text t schedules modes
  plan_is schedules end path jobs some is jobs_are =
      let lists = instrs_of schedules in
      let all = frame_jobs t always in
      let same : legs t (path_of t always) ≡ legs_of (frame_of t) (frame_places t always) (starts t) = ap (λ xs. legs_of (frame_of t) xs (starts t)) (sym (paths_read t always (λ a. selection)).places) in
      ap₂ (λ (js : List Job) (p : ℕ). frame_text t end js (end_to_end (walk_path js (worst_cases js) (lists_of t lists p) (legs t p)))) jobs_are is
      ∙ ap (λ (gs : List Leg). frame_text t end all (end_to_end (walk_path all (worst_cases all) (lists_of t lists (path_of t always)) gs))) same
      ∙ sym (ap (λ (o : Option ℕ). elim o as (λ _. List ℕ) [ Some h ↦ let f = staying_frame t lists modes in frame_text t h f.jobs (walk_of f) | None ↦ plan_line 0 0 0 ]) some)
