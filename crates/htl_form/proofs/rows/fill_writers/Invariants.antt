use Rattle.std.proofs.Common.{◌≡◌, ◌<◌, ◌+◌, ◌&&◌, ℕ, ltb, length}
use Rattle.htl_form.proofs.Words.{slice_get, cell, writes_to}
use Rattle.htl_form.proofs.rows.fill_writers.Given as goal

abbrev pub invariant-loop-q : goal.invariant-loop-q
invariant-loop-q l =
    record {
      len : length l.table ≡ length l.initial.table;
      says : (p r : ℕ) → p < length l.initial.table → cell l.table p r ≡ (ltb r l.q && writes_to (slice_get l.t.invs (l.base + r)) p);
    }
