-- The jobs of a selection are present and have some work.
use Rattle.std.proofs.Common.{◌≡◌, ℕ, ◌≤◌, ◌<◌, true, List, length, map, get_or, slice_get, Option, Some, None, refl, ◌∙◌, ap, arith, inl, inr}
use Rattle.htl_walk.proofs.Words.{All, All-map, All-from_get_or, slice_get_cases, Inv, Task, Tables, task_worst, release, window_end, AreInRange, IsInvInRange, IsTaskInRange, positions, position_below, Job, absent_job, job_of, abstract_jobs, mask, precedes, is_fed_by, HasWork, each_at}
use Rattle.htl_walk.proofs.Masks.{mask_bit, get_mapped}

pub worst_some : (t : Tables) (i : Inv) (k : ℕ) → AreInRange t → slice_get t.invs k ≡ Some i → 1 ≤ task_worst t i.task
worst_some t i k r at =
    let inv : IsInvInRange t i = each_at (IsInvInRange t) t.invs r.invs k i at in
    let task : Task = inv.task.0 in
    let worst : task_worst t i.task ≡ task.worst = ap (λ (o : Option Task). elim o [ Some x ↦ x.worst | None ↦ 0 ]) inv.task.1 in
    omega (arith, (each_at (IsTaskInRange t) t.tasks r.tasks i.task task inv.task.1).worst.some)

-- the job of an invocation that is there
job_there : (t : Tables) (standing : List (Option ℕ)) (k : ℕ) (i : Inv) → Job
job_there t standing k i = grind arith

job_work : (t : Tables) (standing : List (Option ℕ)) (k : ℕ) → AreInRange t → k < length t.invs → HasWork (job_of t standing (Some k))
unfolding job_there
job_work t standing k r h = grind (arith, slice_get_cases, job_there, worst_some)

pub abstract_jobs_work : (t : Tables) (sel : ℕ) → AreInRange t → All HasWork (abstract_jobs t sel)
abstract_jobs_work t sel r =
    let standing = map (λ (k : ℕ). Some k) (positions t sel) in
    All-map HasWork (job_of t standing) standing
    (All-map (λ o. HasWork (job_of t standing o)) (λ (k : ℕ). Some k) (positions t sel)
    (All-from_get_or (λ k. HasWork (job_of t standing (Some k))) (positions t sel) 0 (λ i h. job_work t standing (get_or (positions t sel) i 0) r (position_below t sel i h))))

-- ---- predecessors are those of the port order

pub preds_of : (t : Tables) (standing : List (Option ℕ)) (k : ℕ) (i : Inv) → slice_get t.invs k ≡ Some i → (q : ℕ) → precedes q (job_of t standing (Some k)) ≡ is_fed_by t k (get_or standing q None)
unfolding job_there
preds_of t standing k i at q = grind (arith, job_there, mask_bit, get_mapped)
