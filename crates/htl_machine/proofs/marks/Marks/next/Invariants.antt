use Rattle.std.proofs.Common.{◌≡◌, ◌≤◌, ◌<◌, ◌*◌, ◌+◌, ◌-◌, ℕ, false}
use Rattle.htl_machine.specs.Marks.{is_marked}
use Rattle.htl_machine.proofs.marks.Marks.next.Given as goal

abbrev pub invariant-loop-row : goal.invariant-loop-row
invariant-loop-row l = record {
  within : l.row ≤ 64;
  bit : l.bit < 64;
  past : l.fn.from ≤ l.row * 64 + l.bit;
  skipped : (k : ℕ) → l.fn.from ≤ k → k < l.row * 64 + l.bit → is_marked l.self k ≡ false;
}

abbrev pub decreases-loop-row : goal.decreases-loop-row
decreases-loop-row l = 64 - l.row
