use Rattle.std.proofs.Common.{◌≡◌, ℕ, map, take}
use Rattle.htl_patch.proofs.Words.{new_numbers, switch_at, new_switch, combined}
use Rattle.htl_patch.proofs.mode_items.new_switches.Given as goal

abbrev pub invariant-loop-k : goal.invariant-loop-k
invariant-loop-k l =
    let g = l.g in
    l.found.items ≡ map (λ (x : ℕ). new_switch (new_numbers g) (switch_at (combined g) x)) (take l.k l.keys)
