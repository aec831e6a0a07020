use Rattle.std.proofs.Common.{◌≡◌, ◌≤◌, ◌-◌, length, take}
use Rattle.htl_plan.proofs.SelectionReading.{IsReading}
use Rattle.htl_plan.proofs.selection.read_entries.Given as goal

abbrev pub invariant-lines : goal.invariant-lines
invariant-lines g l =
    IsReading l.fn.t l.lines (take l.done l.modes) (g.R.Source.rest l.initial.src) (g.R.Source.rest l.src)
    × (g.R.Source.faults l.src ≡ g.R.Source.faults l.initial.src)
    × (length l.modes ≡ length l.fn.t.modules)
    × (l.done ≤ length l.fn.t.modules)

abbrev pub decreases-lines : goal.decreases-lines
decreases-lines g l = 1073741826 - l.lines.place.number
