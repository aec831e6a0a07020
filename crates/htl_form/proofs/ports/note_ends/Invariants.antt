use Rattle.std.proofs.Common.{◌≡◌, ◌<◌, ℕ, cond, take, length, get_or, Some, None}
use Rattle.htl_form.proofs.Words.{list_any, is_port, or_else}
use Rattle.htl_form.proofs.ports.note_ends.Given as goal

abbrev pub invariant-loop-j : goal.invariant-loop-j
invariant-loop-j l =
    record {
      len : length l.firsts ≡ length l.initial.firsts;
      says : (p : ℕ) → p < length l.initial.firsts → get_or l.firsts p None ≡ or_else (get_or l.initial.firsts p None) (cond (list_any (is_port p) (take l.j l.ends)) (Some l.k) None);
    }
