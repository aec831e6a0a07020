use Rattle.std.proofs.Common.{arith}
use Rattle.htl_model.proofs.FrameSteps.{count_step}
use Rattle.htl_model.proofs.nodes.node_count.Goals as goal

pub overflow_mul-front : goal.overflow_mul-front
overflow_mul-front c =
    let s = count_step c.args.radices.now c.loop-i.i c.loop-i.n c.loop-i.front (omega arith) c.loop-i.invariant.some c.loop-i.invariant.nodes c.loop-i.invariant.product in
    omega (arith, s.0, c.requires.ways)

pub loop-i-preserved : goal.loop-i-preserved
loop-i-preserved c =
    let s = count_step c.args.radices.now c.loop-i.i c.loop-i.n c.loop-i.front (omega arith) c.loop-i.invariant.some c.loop-i.invariant.nodes c.loop-i.invariant.product in
    record {
      nodes = s.1;
      product = s.2;
      few = omega (arith, s.0, c.requires.ways, c.loop-i.invariant.few);
      some = s.3;
    }
