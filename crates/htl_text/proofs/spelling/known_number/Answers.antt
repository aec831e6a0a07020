use Rattle.std.proofs.Common.{arith, ◌+◌}
use Rattle.htl_text.proofs.Numbers.{next-digit, known-front}
use Rattle.htl_text.proofs.spelling.known_number.Goals as goal

pub overflow_mul-x : goal.overflow_mul-x
overflow_mul-x c =
    let n = next-digit c.args.digits.now c.requires.digits c.loop-b.b-index (omega (arith, c.loop-b-test.true, c.loop-b.auto.b-index-end)) in
    let m = known-front c.args.digits.now (c.loop-b.b-index + 1) c.requires.fits in
    omega (arith, n.low, n.value, m, c.loop-b.invariant)

pub overflow_add-x : goal.overflow_add-x
overflow_add-x c =
    let n = next-digit c.args.digits.now c.requires.digits c.loop-b.b-index (omega (arith, c.loop-b-test.true, c.loop-b.auto.b-index-end)) in
    let m = known-front c.args.digits.now (c.loop-b.b-index + 1) c.requires.fits in
    omega (arith, n.low, n.value, m, c.loop-b.invariant)

pub loop-b-preserved : goal.loop-b-preserved
loop-b-preserved c =
    let n = next-digit c.args.digits.now c.requires.digits c.loop-b.b-index (omega (arith, c.loop-b-test.true, c.loop-b.auto.b-index-end)) in
    let m = known-front c.args.digits.now (c.loop-b.b-index + 1) c.requires.fits in
    omega (arith, n.low, n.value, m, c.loop-b.invariant)
