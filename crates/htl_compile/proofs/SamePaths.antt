-- Tables have the same paths with the same jobs, whatever functions they have.
use Rattle.std.proofs.Common.{◌≡◌, ℕ, ◌+◌, Bool, true, ◌&&◌, eqb, List, map, slice_get, Option, Some, None, refl, sym, ◌∙◌, ap}
use mathlib.Core.Path.{fun_ext}
use Rattle.htl_compile.proofs.Words.{paths_framed, path_places_framed, release_same, window_end_same, with_functions, paths, path_places, Tables, Fun, task_worst, release, window_end, Place, Inv, absent_job, mask, is_fed_by, job_in, placed_job, placed_jobs, path_jobs, Job}

module _ (t : Tables) (fs : List Fun) where
  abbrev u : Tables
  u = with_functions t fs

  -- ---- paths and their positions

  pub paths_same : paths t ≡ paths u
  paths_same = paths_framed t ∙ sym (paths_framed u)

  path_places_same : (path : ℕ) → path_places t path ≡ path_places u path
  path_places_same path = path_places_framed t path ∙ sym (path_places_framed u path)

  -- ---- their jobs

  fed_same : (k : ℕ) (o : Option ℕ) → is_fed_by t k o ≡ is_fed_by u k o
  fed_same k None = refl
  fed_same k (Some n) = refl

  made : Tables → List Place → ℕ → ℕ → Inv → Job
  made v all a k i = job_in v all a k (Some i)

  made_same : (all : List Place) (a k : ℕ) (i : Inv) → made t all a k i ≡ made u all a k i
  unfolding made
  made_same all a k i =
      let make : ℕ → ℕ → (Option ℕ → Bool) → Job = λ r e f.
      record { present = true; inv = k; release = a + r; end = a + e; worst = task_worst t i.task; preds = mask (map (λ (y : Place). eqb y.at a && f y.inv) all) } in
      ap (λ (r : ℕ). make r (window_end t i) (is_fed_by t k)) (release_same t t.functions fs i)
      ∙ ap (λ (e : ℕ). make (release u i) e (is_fed_by t k)) (window_end_same t t.functions fs i)
      ∙ ap (make (release u i) (window_end u i)) (fun_ext (fed_same k))

  job_same : (all : List Place) (x : Place) → placed_job t all x ≡ placed_job u all x
  unfolding made
  job_same all x = by x.inv
    where
      by : (o : Option ℕ) → placed_job t all (record { at = x.at; inv = o }) ≡ placed_job u all (record { at = x.at; inv = o })
      by None = refl
      by (Some k) = ap (λ (f : Inv → Job). elim (slice_get t.invs k) as (λ _. Job) [ None ↦ absent_job | Some i ↦ f i ]) (fun_ext (made_same all x.at k))

  pub path_jobs_same : (path : ℕ) → path_jobs t path ≡ path_jobs u path
  path_jobs_same path =
      ap (λ (f : Place → Job). map f (path_places t path)) (fun_ext (job_same (path_places t path))) ∙ ap (placed_jobs u) (path_places_same path)
