use Rattle.std.proofs.Common.{◌≡◌, ◌<◌, ◌&&◌, ℕ, ltb, length, get_or, None}
use Rattle.htl_walk.proofs.Words.{cell, writes_to, inv_of}
use Rattle.htl_walk.proofs.writers.fill_writers.Given as goal

abbrev pub invariant-loop-q : goal.invariant-loop-q
invariant-loop-q l =
    record {
      len : length l.table ≡ length l.initial.table;
      says : (p r : ℕ) → p < length l.initial.table → cell l.table p r ≡ (ltb r l.q && writes_to (inv_of l.t (get_or l.standing r None)) p);
    }
