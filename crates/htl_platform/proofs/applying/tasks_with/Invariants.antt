use Rattle.std.proofs.Common.{◌≡◌, take}
use Rattle.htl_platform.specs.Applied.{tasks_with}
use Rattle.htl_platform.proofs.applying.tasks_with.Given as goal

abbrev pub invariant-loop-k : goal.invariant-loop-k
invariant-loop-k l = l.tasks.items ≡ tasks_with l.fn.tasks.items (take l.k l.fn.worst)
