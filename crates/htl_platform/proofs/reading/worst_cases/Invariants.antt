use Rattle.std.proofs.Common.{◌≡◌, map, take}
use Rattle.htl_platform.proofs.Words.{table_view, worst_of, worst_in}
use Rattle.htl_platform.proofs.reading.worst_cases.Given as goal

abbrev pub invariant-loop-k : goal.invariant-loop-k
invariant-loop-k l = l.worst.items ≡ map (worst_in l.fn.modules (worst_of (table_view l.fn.table))) (take l.k l.fn.tasks)
