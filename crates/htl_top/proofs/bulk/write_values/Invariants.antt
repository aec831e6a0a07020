use Rattle.htl_top.proofs.Vocabulary.{IsPutting, value_seen}
use Rattle.htl_top.proofs.bulk.write_values.Given as goal

abbrev pub invariant-loop-c : goal.invariant-loop-c
invariant-loop-c g l =
    IsPutting l.t (value_seen l.machine) l.c (g.W.Sink.written l.initial.out) (g.W.Sink.written l.out) (g.W.Sink.faults l.initial.out) (g.W.Sink.faults l.out)
