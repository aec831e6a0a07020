use Rattle.std.proofs.Common.{arith, ◌≡◌, ◌<◌, ℕ, List, length, get_or, set, Option, Some, None, ap, ap₂, sym, ◌∙◌}
use Rattle.htl_plan.proofs.Words.{slice_get-get_or, Job, absent_job, Point, dispatch_begins, finishes_by, job_at, slice_between, time_after, work_after}
use Rattle.htl_plan.proofs.plan_walk.run_position.Goals as goal

-- the job at a position is what code reads there
job_is : (jobs : List Job) (p : ℕ) (x : Job) → p < length jobs → get_or jobs p x ≡ job_at jobs p
job_is jobs p x inside = sym (ap (λ (o : Option Job). elim o [ Some j ↦ j | None ↦ absent_job ]) (slice_get-get_or jobs p x inside))

pub returns-clause-next : goal.returns-clause-next
returns-clause-next c =
    let before = c.args.left.now in
    let work = get_or before c.args.p 0 in
    let result : ℕ → ℕ → Point = λ time rest. record { time = time; left = set before c.args.p rest } in
    let by : Job → Point = λ j. result (time_after c.args.time work j.release c.args.until) (work_after c.args.time work j.release c.args.until) in
    ap₂ result c.dispatch-done.ensures.time c.dispatch-done.ensures.rest ∙ ap by (job_is c.args.jobs.now c.args.p _ (omega (arith, c.requires.known, c.requires.same)))

pub returns-clause-slice : goal.returns-clause-slice
returns-clause-slice c =
    let work = get_or c.args.left.now c.args.p 0 in
    let by : Job → ℕ → Option (ℕ × ℕ) = λ j to. slice_between (dispatch_begins c.args.time j.release c.args.until) c.args.until work to in
    let is = job_is c.args.jobs.now c.args.p _ (omega (arith, c.requires.known, c.requires.same)) in
    c.dispatch-done.ensures.slice ∙ ap₂ by is (sym c.dispatch-done.ensures.time)

pub returns-clause-finished : goal.returns-clause-finished
returns-clause-finished c =
    let work = get_or c.args.left.now c.args.p 0 in
    c.dispatch-done.ensures.finished
    ∙ ap (λ (j : Job). finishes_by work (work_after c.args.time work j.release c.args.until)) (job_is c.args.jobs.now c.args.p _ (omega (arith, c.requires.known, c.requires.same)))
