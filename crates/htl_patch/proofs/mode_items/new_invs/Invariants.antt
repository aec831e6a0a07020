use Rattle.std.proofs.Common.{◌≡◌, ℕ, map, take}
use Rattle.htl_patch.proofs.Words.{new_numbers, inv_at, new_inv, combined}
use Rattle.htl_patch.proofs.mode_items.new_invs.Given as goal

abbrev pub invariant-loop-k : goal.invariant-loop-k
invariant-loop-k l =
    let g = l.g in
    l.found.items ≡ map (λ (x : ℕ). new_inv (new_numbers g) (inv_at (combined g) x)) (take l.k l.keys)
