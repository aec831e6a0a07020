use Rattle.std.proofs.Common.{◌≡◌, ◌<◌, ℕ, false, length, get_or}
use Rattle.htl_form.proofs.Words.{is_taken, stand_together}
use Rattle.htl_form.proofs.taken.mark_taken.Given as goal

abbrev pub invariant-loop-l : goal.invariant-loop-l
invariant-loop-l l =
    record {
      len : length l.taken ≡ length l.initial.taken;
      together : l.together ≡ stand_together l.t l.last l.mode;
      says : (c : ℕ) → c < length l.initial.taken → get_or l.taken c false ≡ is_taken l.t l.mode l.l c;
    }
