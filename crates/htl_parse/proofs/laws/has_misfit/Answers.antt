use Rattle.htl_parse.proofs.Stopping.{misfit}
use Rattle.htl_parse.proofs.laws.has_misfit.Goals as goal

pub returns : goal.returns
returns c = misfit
