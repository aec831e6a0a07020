use Rattle.std.proofs.Common.{◌∙◌}
use Rattle.htl_patch.proofs.Accepting.{misfits, misfit_stops}
use Rattle.htl_patch.proofs.finishing.fitted.Goals as goal

pub misfit-requires : goal.misfit-requires
misfit-requires c = misfits c.args.o.now c.of.result c.args.object.tables c.in-Err.fault (c.of.ensures ∙ c.requires.laid) c.in-Err.ensures.fault.1

pub returns-in-Err-clause-fault : goal.returns-in-Err-clause-fault
returns-in-Err-clause-fault c =
    misfit_stops c.args.o.now c.of.result c.args.object.tables c.in-Err.fault c.misfit.result (c.of.ensures ∙ c.requires.laid) c.requires.formed.formed c.in-Err.ensures.fault.1 c.misfit.ensures
