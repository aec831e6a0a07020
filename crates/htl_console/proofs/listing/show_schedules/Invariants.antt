use Rattle.htl_console.specs.Listing.{schedule_lines}
use Rattle.htl_console.proofs.Writing.{IsWriting}
use Rattle.htl_console.proofs.listing.show_schedules.Given as goal

abbrev pub invariant-loop-k : goal.invariant-loop-k
invariant-loop-k g l = IsWriting (schedule_lines) (l.schedules) l.k (g.W.Sink.written l.initial.sink) (g.W.Sink.written l.sink) (g.W.Sink.faults l.initial.sink) (g.W.Sink.faults l.sink)
