use Rattle.std.proofs.Common.{◌≡◌, subst}
use Rattle.htl_runs.proofs.{Words.Values, Words.text_before, Words.schedules_of, Words.before_of, events.SensorsDecide.sensors_decide}
use Rattle.htl_runs.proofs.laws.sensors_decide.Goals as goal

pub returns : goal.returns
returns c = λ o p es fs now tables same.
    subst (λ t. before_of o es Values now ≡ text_before t p.ecode (schedules_of p) fs Values now) tables
    (sensors_decide o.tables o.ecode p.ecode (schedules_of o) (schedules_of p) es fs now same)
