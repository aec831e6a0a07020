use Rattle.std.proofs.Common.{◌≡◌, arith, ap, ◌∙◌}
use Rattle.htl_walk.proofs.{Words.bit_at, Words.w128, Words.bit_and, Words.bit_at-trailing_zeros, Words.bit_at-zero, PendingLaws.both_set, PendingLaws.not_both, PendingLaws.both_fit}
use Rattle.htl_walk.proofs.pending.pending_predecessor.Goals as goal

pub returns-then-waiting-eq0-clause-none : goal.returns-then-waiting-eq0-clause-none
returns-then-waiting-eq0-clause-none c =
    λ q w. not_both c.args.job.now.preds c.args.pending q (ap (λ n. bit_at n q) (omega (arith, c.if-waiting-eq0.true)) ∙ bit_at-zero q) w

pub returns-else-waiting-eq0-clause-waits : goal.returns-else-waiting-eq0-clause-waits
returns-else-waiting-eq0-clause-waits c =
    let low = bit_at-trailing_zeros w128 (bit_and c.args.job.now.preds c.args.pending) (omega (arith, c.if-waiting-eq0.false)) (both_fit c.args.job.now.preds c.args.pending (omega (arith, c.ranges.pending.fits))) in
    (both_set c.args.job.now.preds c.args.pending _ low.1).0

pub returns-else-waiting-eq0-clause-pending : goal.returns-else-waiting-eq0-clause-pending
returns-else-waiting-eq0-clause-pending c =
    let low = bit_at-trailing_zeros w128 (bit_and c.args.job.now.preds c.args.pending) (omega (arith, c.if-waiting-eq0.false)) (both_fit c.args.job.now.preds c.args.pending (omega (arith, c.ranges.pending.fits))) in
    (both_set c.args.job.now.preds c.args.pending _ low.1).1

pub returns-else-waiting-eq0-clause-lowest : goal.returns-else-waiting-eq0-clause-lowest
returns-else-waiting-eq0-clause-lowest c =
    let low = bit_at-trailing_zeros w128 (bit_and c.args.job.now.preds c.args.pending) (omega (arith, c.if-waiting-eq0.false)) (both_fit c.args.job.now.preds c.args.pending (omega (arith, c.ranges.pending.fits))) in
    λ r less w. not_both c.args.job.now.preds c.args.pending r (low.2 r less) w
