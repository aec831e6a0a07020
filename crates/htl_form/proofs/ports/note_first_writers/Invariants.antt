use Rattle.std.proofs.Common.{◌≡◌, ◌<◌, ℕ, drop, length, get_or, None}
use Rattle.htl_form.proofs.Words.{or_else, first_from, port_writer}
use Rattle.htl_form.proofs.ports.note_first_writers.Given as goal

abbrev pub invariant-loop-k : goal.invariant-loop-k
invariant-loop-k l =
    record {
      len : length l.firsts ≡ length l.initial.firsts;
      says : (p : ℕ) → p < length l.initial.firsts → or_else (get_or l.firsts p None) (first_from (port_writer p) l.k (drop l.k l.invs)) ≡ first_from (port_writer p) 0 l.invs;
    }
