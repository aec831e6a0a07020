use Rattle.std.proofs.Common.{◌≡◌, ◌<◌, ◌||◌, ◌&&◌, ℕ, eqb, take, length}
use Rattle.htl_model.proofs.Words.{list_any, cell, is_port}
use Rattle.htl_model.proofs.port_table.mark_ends.Given as goal

abbrev pub invariant-loop-k : goal.invariant-loop-k
invariant-loop-k l =
    record {
      len : length l.table ≡ length l.initial.table;
      says : (p r : ℕ) → p < length l.initial.table → cell l.table p r ≡ (cell l.initial.table p r || (eqb r l.q && list_any (is_port p) (take l.k l.ends)));
    }
