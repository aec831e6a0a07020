use Rattle.std.proofs.Common.{◌≡◌, ◌<◌, ℕ}
use Rattle.htl_emach.specs.Calendars.{list_at}
use Rattle.htl_machine.proofs.path.are_modes.Given as goal

abbrev pub invariant-loop-k : goal.invariant-loop-k
invariant-loop-k l = (i : ℕ) → i < l.k → list_at l.modes i ≡ list_at l.m.calendar.modes i
