use Rattle.htl_text.proofs.{Writing.Adds-brackets_of, Words.out_of, Words.out_tokens}
use Rattle.htl_text.proofs.printing.OutNodesPrint.print.Goals as goal

pub returns-in-Concrete : goal.returns-in-Concrete
returns-in-Concrete c =
    rw c.in-Concrete.is
    (Adds-brackets_of out_of out_tokens c.in-Concrete.outs c.args.out.now c.in_brackets.new.out c.in_brackets.ensures)
