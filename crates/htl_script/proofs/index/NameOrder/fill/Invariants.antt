use Rattle.std.proofs.Common.{◌≤◌, length}
use Rattle.htl_script.proofs.Words.{name_of, IsOrder}
use Rattle.htl_script.proofs.index.NameOrder.fill.Given as goal

abbrev pub invariant-loop-number : goal.invariant-loop-number
invariant-loop-number l = IsOrder (name_of l.t l.kind) l.number l.self × (length l.self.numbers ≤ l.number)
