use Rattle.std.proofs.Common.{◌≡◌, ◌-◌, true, Ok}
use Rattle.htl_top.proofs.Vocabulary.{IsIndex, LosesPiece, at_start, IsPlaying}
use Rattle.htl_top.proofs.play.play.Given as goal

abbrev pub invariant-events : goal.invariant-events
invariant-events g l =
    IsPlaying l.fn.t l.initial.machine l.machine l.script.stream (g.R.Source.rest l.initial.input) (g.R.Source.rest l.input) (g.W.Sink.written l.initial.out) (g.W.Sink.written l.out)
    × (g.R.Source.faults l.input ≡ g.R.Source.faults l.initial.input)
    × (g.W.Sink.faults l.out ≡ g.W.Sink.faults l.initial.out)
    × LosesPiece {T = Unit {0}} {E = Unit {0}} at_start l.script.stream (g.R.Source.rest l.initial.input) (g.R.Source.rest l.input) (Ok tt)
    × (l.script.ready ≡ true → IsIndex l.fn.t l.script.index)

abbrev pub decreases-events : goal.decreases-events
decreases-events g l = 1073741826 - l.script.stream.here.number
