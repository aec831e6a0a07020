use Rattle.htl_object.proofs.{Words.[], Words.err_from_is_err_and, Words.block_at, Words.items_at, Loops.goes_on, Loops.stops}
use Rattle.htl_object.proofs.block_reader.distinct_blocks.Goals as goal

pub returns-in_err-block : goal.returns-in_err-block
returns-in_err-block c =
    let p = err_from_is_err_and c.from_residual.result c.from_residual.ensures.1 in
    let e = rw c.deref.ensures.value at c.in_err-block.ensures.gives in
    rw (p.1, p.2) (stops block_at c.args.count c.loop.counter c.loop.found.items c.loop.cursor (items_at block_at c.args.count [] c.args.cursor.now) c.in_err-block.field-0.0 c.loop-test.true e c.loop.invariant.read)

pub loop-preserved : goal.loop-preserved
loop-preserved c =
    let e = rw c.deref.ensures.value at c.in_ok-block.ensures.gives in
    record {
      read = rw c.in_ok-push.ensures.items (goes_on block_at c.args.count c.loop.counter c.loop.found.items c.loop.cursor c.in_ok-block.block c.block.new.cursor (items_at block_at c.args.count [] c.args.cursor.now) c.loop-test.true e c.loop.invariant.read);
      spelled = rw c.in_ok-push.ensures.items (rw c.deref.ensures.value at c.in_ok-block.ensures.spelled);
    }
