use Rattle.htl_runs.specs.lines.Programs.{schedules_of}
use Rattle.htl_runs.proofs.{jobs.Accepted.accepted_is_loaded, events.TextSoFar.later_leave}
use Rattle.htl_runs.proofs.laws.later_events_leave_text.Goals as goal

pub returns : goal.returns
returns c = λ o es later show now accepted within from.
    later_leave o.tables o.ecode (schedules_of o) show now (accepted_is_loaded o accepted) es later within from
