use Rattle.std.proofs.Common.{◌≡◌, ℕ, ◌<◌, length, get_or, take}
use Rattle.htl_model.proofs.Words.{count_by, inv_of_mode}
use Rattle.htl_model.proofs.items.count_invs.Given as goal

abbrev pub invariant-loop-k : goal.invariant-loop-k
invariant-loop-k l =
    record {
      len : length l.counts ≡ length l.fn.counts;
      says : (m : ℕ) → m < length l.fn.counts → get_or l.counts m 0 ≡ count_by (inv_of_mode m) (take l.k l.invs);
    }
