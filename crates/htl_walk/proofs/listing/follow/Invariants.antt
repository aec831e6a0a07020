use Rattle.htl_walk.specs.Following.{ArePending}
use Rattle.htl_walk.proofs.Walked.{IsWalked}
use Rattle.htl_walk.proofs.listing.follow.Given as goal

abbrev pub invariant-loop-k : goal.invariant-loop-k
invariant-loop-k l =
    record {
      walked : IsWalked l.jobs l.instrs (record { time = l.span.from; left = l.initial.left }) l.k (record { time = l.now.time; left = l.left });
      pending : ArePending l.now.pending l.left;
    }
