use Rattle.std.proofs.Common.{◌≡◌, ◌++◌, ℕ, map, drop}
use Rattle.htl_patch.proofs.Words.{flat_map, places_from, mode_of_module, modes_of, mode_children, frame, combined}
use Rattle.htl_patch.proofs.order.push_children.Given as goal

abbrev pub invariant-loop-m : goal.invariant-loop-m
invariant-loop-m l =
    let g = l.g in
    l.into.items ++ flat_map (λ (m : ℕ). map (frame l.steps) (mode_children g m)) (places_from (mode_of_module l.u) l.m (drop l.m (combined g).modes))
    ≡ l.initial.into.items ++ flat_map (λ (m : ℕ). map (frame l.steps) (mode_children g m)) (modes_of (combined g) l.u)
