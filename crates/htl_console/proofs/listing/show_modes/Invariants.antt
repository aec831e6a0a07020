use Rattle.htl_console.specs.Listing.{mode_line}
use Rattle.htl_console.proofs.Writing.{IsWriting}
use Rattle.htl_console.proofs.listing.show_modes.Given as goal

abbrev pub invariant-loop-k : goal.invariant-loop-k
invariant-loop-k g l = IsWriting (λ k m. mode_line l.t m) (l.modes) l.k (g.W.Sink.written l.initial.sink) (g.W.Sink.written l.sink) (g.W.Sink.faults l.initial.sink) (g.W.Sink.faults l.sink)
