use Rattle.std.proofs.Common.{◌≡◌, ◌+◌, ◌≤◌, length, drop}
use Rattle.htl_model.proofs.Words.{places_from, is_running}
use Rattle.htl_model.proofs.selections.position_count.Given as goal

abbrev pub invariant-loop-k : goal.invariant-loop-k
invariant-loop-k l =
    (l.n + length (places_from (λ i. is_running l.t l.modes i.mode) l.k (drop l.k l.invs)) ≡ length (places_from (λ i. is_running l.t l.modes i.mode) 0 l.invs)) × (l.n ≤ l.k)
