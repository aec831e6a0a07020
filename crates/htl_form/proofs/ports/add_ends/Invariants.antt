use Rattle.std.proofs.Common.{◌≡◌, ◌<◌, ◌+◌, ℕ, take, length, get_or}
use Rattle.htl_model.specs.PortWriters.{port_uses}
use Rattle.htl_form.proofs.ports.add_ends.Given as goal

abbrev pub invariant-loop-k : goal.invariant-loop-k
invariant-loop-k l =
    record {
      len : length l.counts ≡ length l.initial.counts;
      count : (p : ℕ) → p < length l.initial.counts → get_or l.counts p 0 ≡ get_or l.initial.counts p 0 + port_uses p (take l.k l.ends);
    }
