use Rattle.htl_text.proofs.Words.{take, Adds, after_commas}
use Rattle.htl_text.proofs.printer.after_commas.Given as goal

abbrev pub invariant-loop-item : goal.invariant-loop-item
invariant-loop-item g l = Adds (after_commas g.T.Print.tokens (take l.item-index l.items)) l.fn.out l.out
