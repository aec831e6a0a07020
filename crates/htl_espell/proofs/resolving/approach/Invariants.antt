use Rattle.std.proofs.Common.{◌≡◌, ◌≤◌, ◌-◌, length, Some}
use Rattle.htl_espell.proofs.Words.{arrive, arrives, fault_of, after_jumps}
use Rattle.htl_espell.proofs.resolving.approach.Given as goal

abbrev pub invariant-loop-at : goal.invariant-loop-at
invariant-loop-at l =
    record {
      fault : fault_of (arrive l.code l.referrer l.anchor l.from l.jumps l.at) ≡ fault_of (arrives l.code l.referrer l.anchor l.from);
      few : l.jumps ≤ length l.code;
      after_jumps : after_jumps l.code l.from (length l.code - l.jumps) ≡ Some l.at;
    }

abbrev pub decreases-loop-at : goal.decreases-loop-at
decreases-loop-at l = l.jumps
