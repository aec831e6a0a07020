use Rattle.std.proofs.Common.{◌*◌, ◌%◌, ◌^◌, arith}
use Rattle.htl_walk.proofs.{Words.bit_not, Words.w128, Words.bit_and, PendingLaws.cleared, PendingLaws.kept_pending, PendingLaws.not_kept}
use Rattle.htl_walk.proofs.pending.still_pending.Goals as goal

pub returns-then-left-gt0 : goal.returns-then-left-gt0
returns-then-left-gt0 c = λ q. kept_pending c.args.pending c.args.position q c.args.left (omega (arith, c.if-left-gt0.true))

pub returns-else-left-gt0 : goal.returns-else-left-gt0
returns-else-left-gt0 c =
    λ q. not_kept c.args.pending c.args.position q c.args.left (bit_and c.args.pending (bit_not w128 (1 * 2 ^ c.args.position % 2 ^ 128))) (omega (arith, c.if-left-gt0.false))
    (cleared c.args.pending c.args.position q c.requires (omega (arith, c.ranges.pending.fits)))
