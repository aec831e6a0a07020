use Rattle.htl_script.proofs.Fitting.{whole-script}
use Rattle.htl_script.proofs.laws.whole_scripts_end.Goals as goal

pub returns : goal.returns
returns c = whole-script
