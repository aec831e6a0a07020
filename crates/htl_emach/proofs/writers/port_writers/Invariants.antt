use Rattle.std.proofs.Common.{◌≡◌, ℕ, ◌<◌, ◌≤◌, length, get_or, drop, None}
use Rattle.htl_emach.proofs.PortEntries.{writer_on}
use Rattle.htl_emach.proofs.writers.port_writers.Given as goal

-- the outputs of the invocations from `left` on are entered
abbrev pub invariant-loop-left : goal.invariant-loop-left
invariant-loop-left l =
    (l.left ≤ length l.invs) × (length l.list ≡ length l.ports)
    × ((p : ℕ) → p < length l.ports → get_or l.list p None ≡ writer_on l.ports p l.left (drop l.left l.invs))

abbrev pub decreases-loop-left : goal.decreases-loop-left
decreases-loop-left l = l.left
