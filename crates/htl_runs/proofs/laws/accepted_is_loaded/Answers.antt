use Rattle.htl_runs.proofs.jobs.Accepted.{accepted_is_loaded}
use Rattle.htl_runs.proofs.laws.accepted_is_loaded.Goals as goal

pub returns : goal.returns
returns c = λ o accepted. accepted_is_loaded o accepted
