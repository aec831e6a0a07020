use Rattle.htl_load.proofs.{Words.subst, Words.IsAccepted, StateLaws.accepted_with}
use Rattle.htl_load.proofs.states.scheduled.Goals as goal

pub invariant_of-result : goal.invariant_of-result
invariant_of-result c = accepted_with c.s.inside.object c.s.invariant c.in-Ok.ensures.accepted

pub returns-in-Ok-clause-loaded : goal.returns-in-Ok-clause-loaded
returns-in-Ok-clause-loaded c = (c.s.view_is, subst IsAccepted c.s.view_is (accepted_with c.s.inside.object c.s.invariant c.in-Ok.ensures.accepted))

pub returns-in-Ok-clause-fault : goal.returns-in-Ok-clause-fault
returns-in-Ok-clause-fault c = tt
