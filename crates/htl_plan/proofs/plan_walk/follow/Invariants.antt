use Rattle.std.proofs.Common.{◌≡◌, length, drop}
use Rattle.htl_walk.specs.Walk.{walk_from, last_point}
use Rattle.htl_plan.proofs.ToldRecords.{IsTold}
use Rattle.htl_plan.proofs.plan_walk.follow.Given as goal

abbrev pub invariant-loop-k : goal.invariant-loop-k
invariant-loop-k g l = record {
  told :
      IsTold l.t l.jobs (walk_from l.jobs l.instrs (record { time = l.from; left = l.initial.left })) (walk_from l.jobs (drop l.k l.instrs) (record { time = l.time; left = l.left })) l.k l.done (g.W.Sink.written l.initial.out)
      (g.W.Sink.written l.out) (g.W.Sink.faults l.initial.out) (g.W.Sink.faults l.out);
  goes : last_point l.jobs (drop l.k l.instrs) (record { time = l.time; left = l.left }) ≡ last_point l.jobs l.instrs (record { time = l.from; left = l.initial.left });
  same : length l.left ≡ length l.jobs;
}
