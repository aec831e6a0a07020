use Rattle.std.proofs.Common.{ℕ, ◌≤◌, ◌<◌, length, get_or, sym, ap, subst, arith, inl, inr}
use Rattle.htl_runs.proofs.{Words.slice_get_within, Words.absent_job, Words.job_at, Words.job_is, Words.cases_eq}
use Rattle.htl_walk.specs.declared.job.Job.{Job}
use Rattle.htl_smach.proofs.Joined.{job_at_is}
use Rattle.htl_part_tests.proofs.schedules.smach_tests.in_range.Goals as goal

pub loop-p-preserved : goal.loop-p-preserved
loop-p-preserved c = λ q h.
    let js = c.args.jobs.now in
    let p = c.loop-p.p in
    elim (cases_eq q p) [
      | inl e ↦
          subst (λ (k : ℕ). (1 ≤ get_or c.args.lengths.now k 0) × (get_or c.args.lengths.now k 0 ≤ (job_at js k).worst)) (sym e)
          (omega arith, omega (arith, ap (λ (j : Job). j.worst) (job_at_is js p absent_job c.loop-p-test.true), c.if-lengths-p.false))
      | inr d ↦ c.loop-p.invariant q (omega arith)
    ]

pub returns-clause-some : goal.returns-clause-some
returns-clause-some c = λ _ p j at here.
    let below : p < length c.args.jobs.now = slice_get_within c.args.jobs.now p j at in
    (c.loop-p.invariant p (omega arith)).0

pub returns-clause-worst : goal.returns-clause-worst
returns-clause-worst c = λ _ p j at here.
    let below : p < length c.args.jobs.now = slice_get_within c.args.jobs.now p j at in
    subst (λ (k : Job). get_or c.args.lengths.now p 0 ≤ k.worst) (job_is c.args.jobs.now p j at) (c.loop-p.invariant p (omega arith)).1
