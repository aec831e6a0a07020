use Rattle.std.proofs.Common.{◌≡◌, ◌≤◌, ◌+◌, ◌-◌, length, Some}
use Rattle.htl_espell.proofs.Words.{resolve, resolved, place_of, after_jumps}
use Rattle.htl_espell.proofs.resolving.follow.Given as goal

abbrev pub invariant-loop-i : goal.invariant-loop-i
invariant-loop-i l =
    record {
      place : place_of (resolve l.code l.from l.left l.at) ≡ place_of (resolved l.code l.from);
      few : l.left + l.walked ≤ length l.code;
      after_jumps : after_jumps l.code l.from (length l.code - l.left) ≡ Some l.at;
    }

abbrev pub decreases-loop-i : goal.decreases-loop-i
decreases-loop-i l = l.left
