use Rattle.std.proofs.Common.{◌≡◌, ℕ, suc, ◌+◌, ◌-◌, ap, arith, length}
use Rattle.htl_names.proofs.Words.{level_by, refined_at}
use Rattle.htl_names.proofs.limits.level.Goals as goal

pub loop-k-preserved : goal.loop-k-preserved
loop-k-preserved c =
    let n = length c.args.refined.now in
    let left : n - c.loop-k.k ≡ suc (n - (c.loop-k.k + 1)) = omega arith in
    let here = ap (λ (m : ℕ). level_by (refined_at c.args.refined.now) m c.loop-k.at) left in
    grind arith
