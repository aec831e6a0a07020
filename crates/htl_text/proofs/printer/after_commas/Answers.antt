use Rattle.htl_text.proofs.Writing.{Adds-comma}
use Rattle.htl_text.proofs.printer.after_commas.Goals as goal

pub loop-item-preserved : goal.loop-item-preserved
loop-item-preserved g c =
    Adds-comma c.args.items.now c.loop-item.item-index c.item-item.result c.loop-item-test.true c.item-item.is c.args.out.now c.loop-item.out c.print.new.out
    g.T.Print.tokens c.tokens.new.self c.loop-item.invariant c.tokens.ensures c.print.ensures
