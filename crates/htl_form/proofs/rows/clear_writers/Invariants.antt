use Rattle.std.proofs.Common.{◌≡◌, ◌<◌, ◌≤◌, ◌+◌, ℕ, true, length}
use Rattle.htl_form.proofs.Words.{slice_get, cell, writes_to}
use Rattle.htl_form.proofs.rows.clear_writers.Given as goal

-- a bit that is left is one of a later writer
abbrev pub invariant-loop-q : goal.invariant-loop-q
invariant-loop-q l =
    record {
      len : length l.table ≡ length l.initial.table;
      later : (p r : ℕ) → p < length l.initial.table → cell l.table p r ≡ true → (l.q ≤ r) × (r < l.n) × (writes_to (slice_get l.t.invs (l.base + r)) p ≡ true);
    }
