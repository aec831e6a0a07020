use Rattle.std.proofs.Common.{◌≡◌, ◌++◌, ◌∷◌, [], ℕ, drop}
use Rattle.htl_patch.proofs.Words.{flat_map, numbered, places_from, is_under, mode_children, frame, combined}
use Rattle.htl_patch.proofs.order.push_mode_children.Given as goal

abbrev pub invariant-loop-x : goal.invariant-loop-x
invariant-loop-x l =
    let g = l.g in
    l.into.items ++ flat_map (λ (x : ℕ). frame l.steps x ∷ []) (places_from (is_under g l.m) l.x (numbered l.x (drop l.x (combined g).modules)))
    ≡ l.initial.into.items ++ flat_map (λ (x : ℕ). frame l.steps x ∷ []) (mode_children g l.m)
