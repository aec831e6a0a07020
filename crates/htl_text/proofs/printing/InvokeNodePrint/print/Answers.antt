use Rattle.htl_text.proofs.printing.InvokeNodePrint.print.Goals as goal

pub returns : goal.returns
returns c more all e = c.tokens.ensures _ all (c.in_brackets.ensures _ all (c.tokens-2.ensures _ all (c.in_brackets-2.ensures _ all (c.clause.ensures _ all (c.tokens-3.ensures more all e)))))
