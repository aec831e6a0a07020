use Rattle.std.proofs.Common.{◌≡◌, ℕ, ◌<◌, ◌≤◌, length, get_or, drop, None}
use Rattle.htl_emach.specs.Indices.{entered}
use Rattle.htl_emach.proofs.writers.enter_outputs.Given as goal

-- the outputs from `left` on are entered
abbrev pub invariant-loop-left : goal.invariant-loop-left
invariant-loop-left l =
    (l.left ≤ length l.writes) × (length l.list ≡ length l.ports)
    × ((p : ℕ) → p < length l.ports → get_or l.list p None ≡ entered l.ports l.inv.mode l.place l.left (drop l.left l.writes) p (get_or l.initial.list p None))

abbrev pub decreases-loop-left : goal.decreases-loop-left
decreases-loop-left l = l.left
