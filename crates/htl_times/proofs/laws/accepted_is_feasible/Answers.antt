use Rattle.htl_times.proofs.AcceptedRuns.{accepted_is_feasible}
use Rattle.htl_times.proofs.laws.accepted_is_feasible.Goals as goal

pub returns : goal.returns
returns c = accepted_is_feasible
