use Rattle.htl_top.proofs.Slacking.{NoneBelow}
use Rattle.htl_top.proofs.slack.find_task.Given as goal

abbrev pub invariant-loop-k : goal.invariant-loop-k
invariant-loop-k l = NoneBelow l.t l.owner l.name l.k
