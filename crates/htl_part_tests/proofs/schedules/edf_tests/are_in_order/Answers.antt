use Rattle.std.proofs.Common.{arith, get_or}
use Rattle.htl_part_tests.proofs.schedules.edf_tests.are_in_order.Goals as goal

pub returns : goal.returns
returns c = λ _. record {
  rank = λ q. get_or c.args.places.now q 0;
  below = λ q l. c.loop-q.invariant.place q (omega arith);
  rises = λ p q h l e. c.loop-q.invariant.preds p q h (omega arith) e;
}
