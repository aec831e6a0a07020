use Rattle.htl_text.proofs.Words.{take, Adds, each}
use Rattle.htl_text.proofs.printer.each.Given as goal

abbrev pub invariant-loop-item : goal.invariant-loop-item
invariant-loop-item g l = Adds (each g.T.Print.tokens (take l.item-index l.items)) l.fn.out l.out
