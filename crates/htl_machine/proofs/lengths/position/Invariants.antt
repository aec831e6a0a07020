use Rattle.std.proofs.Common.{◌≡◌, ◌≤◌, length, take}
use Rattle.htl_runs.specs.frames.LastPositions.{position_from}
use Rattle.htl_machine.proofs.lengths.position.Given as goal

abbrev pub invariant-loop-p : goal.invariant-loop-p
invariant-loop-p l = record {
  left : position_from 0 l.jobs l.inv ≡ position_from 0 (take l.p l.jobs) l.inv;
  within : l.p ≤ length l.jobs;
}

abbrev pub decreases-loop-p : goal.decreases-loop-p
decreases-loop-p l = l.p
