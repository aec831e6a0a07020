use Rattle.std.proofs.Common.{◌≡◌, ◌<◌, ℕ, length}
use Rattle.htl_form.proofs.Words.{cell, follows}
use Rattle.htl_form.proofs.rows.fill_rows.Given as goal

abbrev pub invariant-loop-b : goal.invariant-loop-b
invariant-loop-b l =
    record {
      len : length l.rows ≡ length l.initial.rows;
      says : (b a : ℕ) → b < l.b → a < l.n → cell l.rows b a ≡ follows l.t l.base l.n b a;
    }
