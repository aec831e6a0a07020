use Rattle.std.proofs.Common.{◌≡◌, ◌+◌, ◌-◌, length}
use Rattle.htl_names.proofs.Words.{level_by, refined_at}
use Rattle.htl_names.proofs.limits.level.Given as goal

abbrev pub invariant-loop-k : goal.invariant-loop-k
invariant-loop-k l = l.k + level_by (refined_at l.refined) (length l.refined - l.k) l.at ≡ level_by (refined_at l.refined) (length l.refined) l.program
