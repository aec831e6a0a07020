use Rattle.htl_runs.proofs.lists.NextSMachines.{s_machines_go_on}
use Rattle.htl_runs.proofs.laws.s_machines_go_on.Goals as goal

pub returns : goal.returns
returns c = s_machines_go_on
