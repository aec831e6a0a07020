use Rattle.htl_text.proofs.printing.ConstNodePrint.print.Goals as goal

pub returns-in-Int : goal.returns-in-Int
returns-in-Int c = rw c.in-Int.is (λ more all e. c.minus_sign.ensures _ all (c.print.ensures more all e))
