use Rattle.std.proofs.Common.{◌≡◌, ◌+◌, ◌≤◌, ◌<◌, length, All}
use Rattle.htl_audit.proofs.Words.{Slice, log_of, log_of_lines, slices_in_front}
use Rattle.htl_script.specs.Lines.{lines_of}
use Rattle.htl_audit.proofs.log.read_log.Given as goal

abbrev pub invariant-loop-names : goal.invariant-loop-names
invariant-loop-names l =
    (log_of l.t l.fn.bytes ≡ slices_in_front l.slices.items (log_of_lines l.t l.line (lines_of l.left)))
    × (l.line + length l.left ≤ length l.fn.bytes + 1) × All (λ (x : Slice). x.inv < length l.t.invs) l.slices.items

abbrev pub decreases-loop-names : goal.decreases-loop-names
decreases-loop-names l = length l.left
