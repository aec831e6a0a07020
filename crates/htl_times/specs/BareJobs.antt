-- Jobs as far as a walk looks at them.
use Rattle.std.specs.Prelude.{◌≤◌, []}
use Rattle.htl_base.specs.declared.limits.TheConstants.{MAX_PERIOD}
use Rattle.htl_model.specs.{declared.frame.Place.Place, Tables.Tables}
use Rattle.htl_walk.specs.{declared.job.Job.Job, PathJobs.placed_job, Placing.HasTimes}

-- a job without its window's end and its predecessors, which a walk doesn't look at
abbrev pub bare : Job → Job
bare j = record { present = j.present; inv = j.inv; release = j.release; end = 0; worst = j.worst; preds = 0 }

-- that of a position
abbrev pub bare_job : Tables → Place → Job
bare_job t x = bare (placed_job t [] x)

-- its times are those that a word holds
abbrev pub HasTimesAlone : Tables → Place → Type 0
HasTimesAlone t x = HasTimes (placed_job t [] x)

-- its worst case is one that a task may have
abbrev pub IsShort : Job → Type 0
IsShort j = j.worst ≤ MAX_PERIOD
