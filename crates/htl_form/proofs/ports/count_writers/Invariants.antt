use Rattle.std.proofs.Common.{◌≡◌, ◌<◌, ℕ, take, length, get_or}
use Rattle.htl_model.specs.PortWriters.{writers_in}
use Rattle.htl_form.proofs.ports.count_writers.Given as goal

abbrev pub invariant-loop-k : goal.invariant-loop-k
invariant-loop-k l =
    record {
      len : length l.counts ≡ length l.initial.counts;
      count : (p : ℕ) → p < length l.initial.counts → get_or l.counts p 0 ≡ writers_in p (take l.k l.invs);
    }
