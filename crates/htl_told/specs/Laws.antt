-- What the job lines of a run and the latest finishes have to do with each other.
use Rattle.std.specs.Prelude.{◌≡◌, ◌≤◌, ℕ, ◌+◌, ◌-◌, ◌*◌, ◌/◌, List, slice_get, Some}
use Rattle.htl_model.specs.declared.event.Event.{Event}
use Rattle.htl_object.specs.{Accepted.IsAccepted, declared.object.Object.Object}
use Rattle.htl_refine.specs.Records.{AreTookWithin}
use Rattle.htl_runs.specs.{jobs.JobTimes.inv_period, lines.Programs.schedules_of, lines.RunLines.job_lines_to, lines.RunLines.RunLine.DoneLine}
use Rattle.htl_times.specs.{Response.IsLatest, Roots.root_of, declared.greatest.Greatest.Greatest}

-- when the round begins in which an instant lies, where rounds last so many ticks; where two rounds meet it lies in the first
abbrev pub round_begin : ℕ → ℕ → ℕ
round_begin period now = period * ((now - 1) / period)

-- of an accepted object, whatever the sensors show and however long the jobs take within their worst cases: no d line of a run is about
-- a later instant than its module's round begins and the latest finish more, that of the root invocation in whose place its invocation
-- stands
abbrev pub ToldNoLater : Type 0
ToldNoLater =
    (o : Object) (es : List Event) (end k now inv root : ℕ) (l : Greatest) → IsAccepted o → AreTookWithin o.tables es
    → slice_get (job_lines_to o.tables (schedules_of o) es end) k ≡ Some (DoneLine now inv)
    → root_of o.tables inv ≡ Some root → IsLatest o.tables (schedules_of o) root l
    → now ≤ round_begin (inv_period o.tables inv) now + l.ticks
