use Rattle.htl_smach.specs.States.{HaveBegun}
use Rattle.htl_smach.proofs.position_states.PositionStates.begin.Given as goal

abbrev pub invariant-loop-k : goal.invariant-loop-k
invariant-loop-k l = HaveBegun l.initial.self l.self l.first l.k l.jobs
