use Rattle.std.proofs.Common.{◌≡◌, ◌<◌, ℕ, false, Some, length, get_or}
use Rattle.htl_form.proofs.Words.{slice_get, Inv, cell, IsStartOf, precedes_itself}
use Rattle.htl_form.proofs.cycles.mark_cycles.Given as goal

abbrev pub invariant-loop-m : goal.invariant-loop-m
invariant-loop-m l =
    record {
      len : length l.marks ≡ length l.initial.marks;
      start : IsStartOf l.t l.m l.base;
      ports : length l.writers ≡ 4096;
      empty : (p q : ℕ) → cell l.writers p q ≡ false;
      marked : (k : ℕ) (i : Inv) → slice_get l.t.invs k ≡ Some i → i.mode < l.m → get_or l.marks k false ≡ precedes_itself l.t k;
    }
