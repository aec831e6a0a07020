use Rattle.htl_model.proofs.SameMeaning.{same_runs}
use Rattle.htl_model.proofs.exchange.functions_decide_runs.Goals as goal

pub returns : goal.returns
returns c = λ t fs h. same_runs t fs h
