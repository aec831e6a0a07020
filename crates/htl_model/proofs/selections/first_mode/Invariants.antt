use Rattle.std.proofs.Common.{◌≤◌, length}
use Rattle.htl_model.specs.RootModes.{modes_below}
use Rattle.htl_model.proofs.selections.first_mode.Given as goal

abbrev pub invariant-loop-first : goal.invariant-loop-first
invariant-loop-first l =
    record {
      low : modes_below l.modes l.module ≤ l.first;
      high : l.first ≤ l.end;
      within : l.end ≤ length l.modes;
    }

abbrev pub decreases-loop-first : goal.decreases-loop-first
decreases-loop-first l = l.first
