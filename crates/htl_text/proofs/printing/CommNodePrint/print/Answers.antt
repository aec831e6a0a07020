use Rattle.htl_text.proofs.printing.CommNodePrint.print.Goals as goal

pub returns : goal.returns
returns c more all e = c.kind.ensures _ all (c.print.ensures _ all (c.tokens.ensures _ all (c.print-2.ensures _ all (c.tokens-2.ensures _ all (c.print-3.ensures _ all (c.tokens-3.ensures more all e))))))
