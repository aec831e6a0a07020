use Rattle.std.proofs.Common.{◌≡◌, drop, get_or}
use Rattle.htl_model.proofs.Words.{places_from, is_running}
use Rattle.htl_model.proofs.selections.position_at.Given as goal

abbrev pub invariant-loop-k : goal.invariant-loop-k
invariant-loop-k l =
    get_or (places_from (λ i. is_running l.t l.modes i.mode) l.k (drop l.k l.invs)) l.left 0 ≡ get_or (places_from (λ i. is_running l.t l.modes i.mode) 0 l.invs) l.place 0
