use Rattle.std.proofs.Common.{arith, ◌-◌, ◌^◌}
use Rattle.htl_model.proofs.PlaceSteps.{choices_more}
use Rattle.htl_model.proofs.rounds.round_choices.Goals as goal

pub loop-k-preserved : goal.loop-k-preserved
loop-k-preserved c = record {
  product = choices_more (2 ^ 32 - 1) c.args.t.now c.args.rounds.now c.loop-k.k c.loop-k.n _ c.mode_count.result _ (omega arith) c.mode_count.ensures.count (omega arith) c.loop-k.invariant.product;
  few = omega arith;
}
