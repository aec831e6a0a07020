use Rattle.htl_smach.proofs.{Words.ap, Words.Job, Begun.none_begun, Begun.one_more_begun, Joined.job_at_is}
use Rattle.htl_smach.proofs.position_states.PositionStates.begin.Goals as goal

pub loop-k-init : goal.loop-k-init
loop-k-init c = none_begun c.args.self.now c.args.first c.args.jobs.now

pub loop-k-preserved : goal.loop-k-preserved
loop-k-preserved c =
    one_more_begun c.args.self.now c.loop-k.self c.begin_one.new.self c.args.first c.loop-k.k c.args.jobs.now _ c.loop-k.invariant
    (ap (λ (j : Job). j.present) (job_at_is c.args.jobs.now c.loop-k.k _ c.loop-k-test.true)) c.begin_one.ensures.present c.begin_one.ensures.released c.begin_one.ensures.done
