use Rattle.std.proofs.Common.{◌≡◌, ℕ, take}
use Rattle.htl_model.proofs.Words.{list_any, has_bit, is_from}
use Rattle.htl_model.proofs.port_table.row_of.Given as goal

abbrev pub invariant-loop-k : goal.invariant-loop-k
invariant-loop-k l = (q : ℕ) → has_bit l.row q ≡ list_any (is_from l.table q) (take l.k l.ends)
