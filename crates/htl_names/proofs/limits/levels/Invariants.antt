use Rattle.std.proofs.Common.{◌≡◌, length, drop}
use Rattle.htl_names.proofs.Words.{list_to, greatest, level_by, refined_at}
use Rattle.htl_names.proofs.limits.levels.Given as goal

abbrev pub invariant-loop-p : goal.invariant-loop-p
invariant-loop-p l =
    let all = list_to (level_by (refined_at l.refined) (length l.refined)) (length l.refined) in
    greatest l.most (drop l.p all) ≡ greatest 0 all
