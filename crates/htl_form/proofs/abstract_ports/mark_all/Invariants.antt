use Rattle.std.proofs.Common.{◌≡◌, ◌<◌, ◌||◌, ℕ, false, get_or, take}
use Rattle.htl_form.proofs.Words.{list_any, is_port}
use Rattle.htl_form.proofs.abstract_ports.mark_all.Given as goal

abbrev pub invariant-loop-k : goal.invariant-loop-k
invariant-loop-k l =
    (p : ℕ) → p < 4096 → get_or l.marks p false ≡ (get_or l.initial.marks p false || list_any (is_port p) (take l.k l.ends))
