use Rattle.std.proofs.Common.{◌≡◌, map, take}
use Rattle.htl_emach.specs.Calendars.{first_trigger}
use Rattle.htl_emach.proofs.entries.first_triggers.Given as goal

abbrev pub invariant-loop-k : goal.invariant-loop-k
invariant-loop-k l = l.list.items ≡ map (first_trigger l.code) (take l.k l.modules)
