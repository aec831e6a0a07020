use Rattle.htl_runs.specs.lines.Programs.{schedules_of}
use Rattle.htl_runs.proofs.events.SensorsDecide.{values_are_the_meaning}
use Rattle.htl_runs.proofs.laws.values_are_the_meaning.Goals as goal

pub returns : goal.returns
returns c = λ o es now. values_are_the_meaning o.tables o.ecode (schedules_of o) es now
