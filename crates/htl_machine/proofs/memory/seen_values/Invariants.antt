use Rattle.std.proofs.Common.{◌≡◌, take}
use Rattle.htl_machine.proofs.memory.seen_values.Given as goal

abbrev pub invariant-loop-c : goal.invariant-loop-c
invariant-loop-c l = l.values.items ≡ take l.c l.world.values
