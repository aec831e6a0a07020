use Rattle.std.proofs.Common.{◌≡◌, ◌-◌, length}
use Rattle.htl_script.specs.LineReading.{ReadsOn}
use Rattle.htl_script.proofs.line_stream.LineStream.next.Given as goal

abbrev pub invariant-pieces : goal.invariant-pieces
invariant-pieces g l =
    ReadsOn l.initial.self l.self (g.R.Source.rest l.initial.src) (g.R.Source.rest l.src)
    × (g.R.Source.faults l.src ≡ g.R.Source.faults l.initial.src)

abbrev pub decreases-pieces : goal.decreases-pieces
decreases-pieces g l = 256 - length l.self.place.line
