use Rattle.std.proofs.Common.{map}
use Rattle.htl_model.specs.Tables.{fun_of}
use Rattle.htl_console.specs.Listing.{function_line}
use Rattle.htl_console.proofs.Writing.{IsWriting}
use Rattle.htl_console.proofs.listing.show_functions.Given as goal

abbrev pub invariant-loop-k : goal.invariant-loop-k
invariant-loop-k g l = IsWriting (function_line) (map fun_of l.functions) l.k (g.W.Sink.written l.initial.sink) (g.W.Sink.written l.sink) (g.W.Sink.faults l.initial.sink) (g.W.Sink.faults l.sink)
