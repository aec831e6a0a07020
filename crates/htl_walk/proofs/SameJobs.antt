-- Tables have the same jobs, whatever functions they have.
use Rattle.std.proofs.Common.{arith, ◌≡◌, ℕ, Bool, true, List, map, slice_get, Option, Some, None, refl, ◌∙◌, ap}
use mathlib.Core.Path.{fun_ext}
use Rattle.htl_walk.proofs.Words.{with_functions, positions, Tables, Fun, task_worst, release, window_end, Inv, positions_same, release_same, window_end_same, Job, absent_job, job_of, jobs_standing, abstract_jobs, mask, is_fed_by, FunctionsDecideNoJob}

module _ (t : Tables) (fs : List Fun) where
  fed_same : (k : ℕ) (o : Option ℕ) → is_fed_by t k o ≡ is_fed_by (with_functions t fs) k o
  fed_same k None = refl
  fed_same k (Some n) = refl

  made : Tables → List (Option ℕ) → ℕ → Inv → Job
  made u standing k i = record { present = true; inv = k; release = release u i; end = window_end u i; worst = task_worst u i.task; preds = mask (map (is_fed_by u k) standing) }

  made_same : (standing : List (Option ℕ)) (k : ℕ) (i : Inv) → made t standing k i ≡ made (with_functions t fs) standing k i
  unfolding made
  made_same standing k i = grind (arith, release_same, window_end_same, fed_same)

  pub job_same : (standing : List (Option ℕ)) (o : Option ℕ) → job_of t standing o ≡ job_of (with_functions t fs) standing o
  unfolding made
  job_same standing None = refl
  job_same standing (Some k) = grind (arith, made_same)

  pub jobs_same : (standing : List (Option ℕ)) → jobs_standing t standing ≡ jobs_standing (with_functions t fs) standing
  jobs_same standing = ap (λ (f : Option ℕ → Job). map f standing) (fun_ext (job_same standing))

  pub abstract_jobs_same : (sel : ℕ) → abstract_jobs t sel ≡ abstract_jobs (with_functions t fs) sel
  abstract_jobs_same sel = grind (arith, jobs_same, positions_same)

pub functions_decide_no_job : FunctionsDecideNoJob
functions_decide_no_job t fs = record { jobs = jobs_same t fs; selections = abstract_jobs_same t fs }
