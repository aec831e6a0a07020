use Rattle.std.proofs.Common.{◌≡◌, ℕ, map, take}
use Rattle.htl_patch.proofs.Words.{new_numbers, mode_at, new_mode, combined}
use Rattle.htl_patch.proofs.unit_items.new_modes.Given as goal

abbrev pub invariant-loop-k : goal.invariant-loop-k
invariant-loop-k l =
    let g = l.g in
    l.found.items ≡ map (λ (x : ℕ). new_mode (new_numbers g) (mode_at (combined g) x)) (take l.k l.keys)
