use Rattle.std.proofs.Common.{◌≡◌, ◌≤◌, ◌<◌, ◌+◌, ℕ, false, length, get_or}
use Rattle.htl_model.specs.Bits.{cell}
use Rattle.htl_form.proofs.cycles.mark_diagonal.Given as goal

abbrev pub invariant-loop-q : goal.invariant-loop-q
invariant-loop-q l =
    record {
      len : length l.marks ≡ length l.initial.marks;
      inside : (q : ℕ) → q < l.q → get_or l.marks (l.base + q) false ≡ cell l.rows q q;
      below : (k : ℕ) → k < l.base → get_or l.marks k false ≡ get_or l.initial.marks k false;
      above : (k : ℕ) → l.base + l.n ≤ k → get_or l.marks k false ≡ get_or l.initial.marks k false;
    }
