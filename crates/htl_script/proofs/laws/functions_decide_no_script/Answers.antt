use Rattle.htl_script.proofs.SameScript.{script_same}
use Rattle.htl_script.proofs.laws.functions_decide_no_script.Goals as goal

pub returns : goal.returns
returns c = script_same
