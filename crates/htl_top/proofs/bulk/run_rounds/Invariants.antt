use Rattle.htl_top.proofs.Rounds.{IsRunning}
use Rattle.htl_top.proofs.bulk.run_rounds.Given as goal

abbrev pub invariant-loop-round : goal.invariant-loop-round
invariant-loop-round g l =
    IsRunning l.initial.machine l.machine l.round (g.W.Sink.written l.initial.out) (g.W.Sink.written l.out) (g.W.Sink.faults l.initial.out) (g.W.Sink.faults l.out)
