use Rattle.htl_console.specs.Listing.{code_line}
use Rattle.htl_console.proofs.Writing.{IsWriting}
use Rattle.htl_console.proofs.listing.show_code.Given as goal

abbrev pub invariant-loop-k : goal.invariant-loop-k
invariant-loop-k g l = IsWriting (code_line l.t) (l.instrs) l.k (g.W.Sink.written l.initial.sink) (g.W.Sink.written l.sink) (g.W.Sink.faults l.initial.sink) (g.W.Sink.faults l.sink)
