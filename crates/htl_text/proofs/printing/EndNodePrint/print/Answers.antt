use Rattle.htl_text.proofs.printing.EndNodePrint.print.Goals as goal

pub returns-in-Comm : goal.returns-in-Comm
returns-in-Comm c =
    rw c.in-Comm.is
    (λ more all e. c.tokens.ensures _ all (c.print.ensures _ all (c.tokens-in-Comm.ensures more all e)))
