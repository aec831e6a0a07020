use Rattle.std.proofs.Common.{◌≡◌, ◌≤◌, length, false}
use Rattle.htl_text.specs.Scanning.{skip}
use Rattle.htl_text.proofs.scan.behind_blanks.Given as goal

abbrev pub invariant-loop-rest : goal.invariant-loop-rest
invariant-loop-rest l = (skip false l.rest ≡ skip false l.bytes) × (length l.rest ≤ length l.bytes)

abbrev pub decreases-loop-rest : goal.decreases-loop-rest
decreases-loop-rest l = length l.rest
