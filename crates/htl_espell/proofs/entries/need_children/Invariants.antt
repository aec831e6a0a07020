use Rattle.std.proofs.Common.{◌≡◌, drop}
use Rattle.htl_espell.proofs.Words.{joined, numbered, next_of, child_wants}
use Rattle.htl_espell.proofs.entries.need_children.Given as goal

abbrev pub invariant-loop-k : goal.invariant-loop-k
invariant-loop-k l =
    record {
      same : l.code ≡ l.fn.code;
      read : next_of l.fn.code l.place (joined (child_wants l.mode) (numbered l.k (drop l.k l.modules))) ≡ next_of l.fn.code l.fn.at (joined (child_wants l.mode) (numbered 0 l.t.modules));
    }
