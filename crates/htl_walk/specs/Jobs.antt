-- The jobs of a round.
use Rattle.std.specs.Prelude.{ℕ, ◌+◌, ◌*◌, Bool, true, false, List, [], ◌∷◌, slice_get, map, Option, Some, None}
use Rattle.htl_model.specs.{Bits.has_bit, PortOrder.feeds, declared.parts.Inv.Inv, Functions.of_bool, Selections.positions, Tables.Tables, Tables.task_worst, Tables.release, Tables.window_end}
use Rattle.htl_walk.specs.declared.job.Job.{Job}

-- ---- predecessors

-- whether what stands at a position writes a port that invocation k reads
abbrev pub is_fed_by : Tables → ℕ → Option ℕ → Bool
is_fed_by t k None = false
is_fed_by t k (Some n) = feeds t n k

-- the number whose bits are these
abbrev pub mask : List Bool → ℕ
mask [] = 0
mask (b ∷ bs) = of_bool b + 2 * mask bs

-- whether position p is a predecessor of the job
abbrev pub precedes : ℕ → Job → Bool
precedes p j = has_bit j.preds p

abbrev pub absent_job : Job
absent_job = record { present = false; inv = 0; release = 0; end = 0; worst = 0; preds = 0 }

-- the job of invocation k among those that stand at the positions
abbrev pub job_among : Tables → List (Option ℕ) → ℕ → Option Inv → Job
job_among t standing k None = absent_job
job_among t standing k (Some i) =
    record {
      present = true;
      inv = k;
      release = release t i;
      end = window_end t i;
      worst = task_worst t i.task;
      preds = mask (map (is_fed_by t k) standing);
    }

-- the job of what stands at a position
abbrev pub job_of : Tables → List (Option ℕ) → Option ℕ → Job
job_of t standing None = absent_job
job_of t standing (Some k) = job_among t standing k (slice_get t.invs k)

abbrev pub jobs_standing : Tables → List (Option ℕ) → List Job
jobs_standing t standing = map (job_of t standing) standing

-- the jobs of a root selection, abstract ones included
abbrev pub abstract_jobs : Tables → ℕ → List Job
abstract_jobs t sel = jobs_standing t (map (λ k. Some k) (positions t sel))
