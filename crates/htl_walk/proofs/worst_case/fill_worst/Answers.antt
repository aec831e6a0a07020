use Rattle.std.proofs.Common.{ℕ, ◌<◌, length, arith}
use Rattle.htl_walk.proofs.{Following.worst_filled, PendingLaws.pending_first}
use Rattle.htl_walk.proofs.worst_case.fill_worst.Goals as goal

pub returns-clause-work : goal.returns-clause-work
returns-clause-work c =
    worst_filled c.args.jobs.now c.loop-p.left c.requires.present (omega (arith, c.requires.same, c.loop-p.auto.left))
    (λ (q : ℕ) (h : q < length c.args.jobs.now). c.loop-p.invariant.worst q (omega arith))

pub returns-clause-pending : goal.returns-clause-pending
returns-clause-pending c =
    pending_first c.args.jobs.now c.loop-p.pending c.loop-p.p c.loop-p.left c.requires.present
    (worst_filled c.args.jobs.now c.loop-p.left c.requires.present (omega (arith, c.requires.same, c.loop-p.auto.left))
    (λ (q : ℕ) (h : q < length c.args.jobs.now). c.loop-p.invariant.worst q (omega arith)))
    (omega (arith, c.requires.same, c.loop-p.auto.left)) (omega (arith, c.loop-p-test.false, c.loop-p.auto.p-end)) c.loop-p.invariant.pending
