use Rattle.std.proofs.Common.{get_or, None}
use Rattle.htl_console.proofs.Writing.{IsWriting}
use Rattle.htl_times_top.specs.Texts.{time_line}
use Rattle.htl_times_top.proofs.text.put_rows.Given as goal

abbrev pub invariant-loop-k : goal.invariant-loop-k
invariant-loop-k g l =
    IsWriting (λ i x. time_line l.t (get_or l.rows i None) i x) l.invs l.k (g.W.Sink.written l.initial.sink) (g.W.Sink.written l.sink) (g.W.Sink.faults l.initial.sink) (g.W.Sink.faults l.sink)
