use Rattle.std.proofs.Common.{◌≡◌, ◌≤◌, ◌-◌, length}
use Rattle.htl_top.proofs.Inputs.{AreRead}
use Rattle.htl_top.proofs.input.read_input.Given as goal

abbrev pub invariant-pieces : goal.invariant-pieces
invariant-pieces g l =
    AreRead l.bytes.items (g.R.Source.rest l.initial.input) (g.R.Source.rest l.input)
    × (g.R.Source.faults l.input ≡ g.R.Source.faults l.initial.input)
    × (length l.buf ≡ 4096)
    × (length l.bytes.items ≤ 1048576)

abbrev pub decreases-pieces : goal.decreases-pieces
decreases-pieces g l = 1048577 - length l.bytes.items
