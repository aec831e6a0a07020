use Rattle.std.proofs.Common.{◌≡◌, ◌<◌, ◌||◌, ℕ, false, take, length, get_or}
use Rattle.htl_form.proofs.Words.{list_any, is_comm}
use Rattle.htl_form.proofs.taken.take_ends.Given as goal

abbrev pub invariant-loop-k : goal.invariant-loop-k
invariant-loop-k l =
    record {
      len : length l.taken ≡ length l.initial.taken;
      says : (c : ℕ) → c < length l.initial.taken → get_or l.taken c false ≡ (get_or l.initial.taken c false || list_any (is_comm c) (take l.k l.ends));
    }
