use Rattle.std.proofs.Common.{◌≡◌, ℕ, map, take}
use Rattle.htl_patch.proofs.Words.{new_numbers, port_at, new_port, combined}
use Rattle.htl_patch.proofs.mode_items.new_ports.Given as goal

abbrev pub invariant-loop-k : goal.invariant-loop-k
invariant-loop-k l =
    let g = l.g in
    l.found.items ≡ map (λ (x : ℕ). new_port (new_numbers g) (port_at (combined g) x)) (take l.k l.keys)
