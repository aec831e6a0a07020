use Rattle.htl_ecode.proofs.Fitting.{formed_offsets}
use Rattle.htl_load.proofs.states.spelled.Goals as goal

pub spells-requires-clause-form : goal.spells-requires-clause-form
spells-requires-clause-form c = formed_offsets c.f.inside.object.tables c.f.invariant.formed

pub returns-in-Ok-clause-fault : goal.returns-in-Ok-clause-fault
returns-in-Ok-clause-fault c = tt
