use Rattle.std.proofs.Common.{arith}
use Rattle.htl_script.proofs.Digits.{digits_value}
use Rattle.htl_script.proofs.number.value.Goals as goal

pub returns : goal.returns
returns c = digits_value c.args.field.now c.loop-b.n c.loop-b.b-index (omega (arith, c.loop-b-test.false)) c.loop-b.invariant.0 c.loop-b.invariant.1
