use Rattle.htl_text.proofs.Writing.{Adds-each}
use Rattle.htl_text.proofs.printer.each.Goals as goal

pub loop-item-preserved : goal.loop-item-preserved
loop-item-preserved g c =
    let same = c.as_slice-item-items.ensures in
    Adds-each c.args.items.now c.loop-item.item-index c.item-item.result (rw same at c.loop-item-test.true) (rw same at c.item-item.is) c.args.out.now c.loop-item.out c.print.new.out
    g.T.Print.tokens c.loop-item.invariant c.print.ensures
