use Rattle.htl_object.proofs.{Words.[], Words.err_from_is_err_and, Words.items_at, Loops.goes_on, Loops.stops}
use Rattle.htl_object.proofs.items.noted_items.Goals as goal

pub returns-in_err-item-clause-gives : goal.returns-in_err-item-clause-gives
returns-in_err-item-clause-gives g c =
    let read = g.T.NotedItem.item_at c.args.around.now in
    let p = err_from_is_err_and c.from_residual.result c.from_residual.ensures.1 in
    let e = rw c.deref.ensures.value at c.in_err-item.ensures.gives in
    rw (p.1, p.2) (stops read c.args.count c.loop.counter c.loop.found.items c.loop.cursor (items_at read c.args.count [] c.args.cursor.now) c.in_err-item.field-0.0 c.loop-test.true e c.loop.invariant.read)

pub loop-preserved : goal.loop-preserved
loop-preserved g c =
    let read = g.T.NotedItem.item_at c.args.around.now in
    let e = rw c.deref.ensures.value at c.in_ok-item.ensures.gives in
    record {
      read = rw c.in_ok-push.ensures.items (goes_on read c.args.count c.loop.counter c.loop.found.items c.loop.cursor c.in_ok-item.item c.read.new.cursor (items_at read c.args.count [] c.args.cursor.now) c.loop-test.true e c.loop.invariant.read);
      noted = rw c.in_ok-push.ensures.items (rw c.deref.ensures.value at c.in_ok-item.ensures.noted);
    }
