use Rattle.std.proofs.Common.{◌≡◌, ◌<◌, ℕ, true, false, take, length}
use Rattle.htl_form.proofs.Words.{list_any, cell, is_port}
use Rattle.htl_form.proofs.rows.clear_ends.Given as goal

abbrev pub invariant-loop-k : goal.invariant-loop-k
invariant-loop-k l =
    record {
      len : length l.table ≡ length l.initial.table;
      says : (p r : ℕ) → p < length l.initial.table → cell l.table p r ≡ true → (cell l.initial.table p r ≡ true) × (list_any (is_port p) (take l.k l.ends) ≡ false);
    }
