use Rattle.std.proofs.Common.{arith, ◌+◌, sym}
use Rattle.htl_text.proofs.Numbers.{next-digit, number_of-large}
use Rattle.htl_text.proofs.spelling.number_of.Goals as goal

pub returns-then-x : goal.returns-then-x
returns-then-x c =
    let n = next-digit c.args.digits.now c.requires c.loop-b.b-index (omega (arith, c.loop-b-test.true, c.loop-b.auto.b-index-end)) in
    sym (number_of-large c.args.digits.now (c.loop-b.b-index + 1) (omega (arith, n.low, n.value, c.loop-b.invariant, c.if-x.true)))

pub loop-b-preserved : goal.loop-b-preserved
loop-b-preserved c =
    let n = next-digit c.args.digits.now c.requires c.loop-b.b-index (omega (arith, c.loop-b-test.true, c.loop-b.auto.b-index-end)) in
    omega (arith, n.low, n.value, c.loop-b.invariant)
