use Rattle.std.proofs.Common.{◌≡◌, set, length, pos, arith, ap, rules}
use Rattle.htl_machine.proofs.Settling.{settling_start, settling_step, settling_end}
use Rattle.htl_machine.proofs.noted.settle_values.Goals as goal

pub loop-c-init : goal.loop-c-init
loop-c-init c = (settling_start (pos 0) c.args.written.now c.args.values.now c.args.world.now.values c.next-c.result c.requires.count c.requires.same c.next-c.ensures.skipped, c.next-c.ensures.high)

pub loop-c-preserved : goal.loop-c-preserved
loop-c-preserved c =
    let put : c.set.new.self ≡ set c.loop-c.values c.loop-c.c c.value.result = search rules in (
      settling_step (pos 0) c.args.written.now c.loop-c.values c.args.world.now.values c.set.new.self c.loop-c.c c.next-c-in-loop-c.result c.value.result c.loop-c.invariant.0
          (omega (arith, c.loop-c-test.true, ap length c.as_slice-count.ensures, c.loop-c.invariant.0.long, c.requires.count)) put c.value.ensures c.next-c-in-loop-c.ensures.skipped,
      c.next-c-in-loop-c.ensures.high,
    )

pub returns : goal.returns
returns c =
    settling_end (pos 0) c.args.written.now c.loop-c.values c.args.world.now.values c.loop-c.c c.loop-c.invariant.0
    (omega (arith, c.loop-c-test.false, ap length c.as_slice-count.ensures, c.loop-c.invariant.0.long, c.requires.count))
