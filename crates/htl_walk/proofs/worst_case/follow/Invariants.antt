use Rattle.htl_walk.specs.Following.{ArePending}
use Rattle.htl_walk.proofs.Following.{IsFollowedTo}
use Rattle.htl_walk.proofs.worst_case.follow.Given as goal

abbrev pub invariant-loop-k : goal.invariant-loop-k
invariant-loop-k l =
    record {
      followed : IsFollowedTo l.jobs l.instrs l.k (record { time = l.now.time; left = l.left }) l.finish;
      pending : ArePending l.now.pending l.left;
    }
