use Rattle.htl_top.proofs.Inputs.{taken_none}
use Rattle.htl_top.proofs.plan.plan.Goals as goal

pub returns-in_default-clause-taken : goal.returns-in_default-clause-taken
returns-in_default-clause-taken g c = taken_none 1073742080 (g.R.Source.rest c.args.input.now)
