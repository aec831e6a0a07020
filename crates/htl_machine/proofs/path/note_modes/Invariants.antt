use Rattle.std.proofs.Common.{◌≡◌, take, length}
use Rattle.htl_machine.proofs.path.note_modes.Given as goal

abbrev pub invariant-loop-k : goal.invariant-loop-k
invariant-loop-k l = record {
  front : take l.k l.modes.modes ≡ take l.k l.m.calendar.modes;
  size : length l.modes.modes ≡ length l.m.calendar.modes;
}
