use Rattle.htl_text.proofs.{Words.IfOk-weaker, Words.program_of, Words.each, Words.program_tokens, Words.map, Writing.Adds-each_of, Writing.Adds-whole}
use Rattle.htl_text.proofs.printing.print.Goals as goal

pub returns : goal.returns
returns c =
    let programs = Adds-each_of program_of program_tokens c.args.tree.now.programs c.new-out.result c.each.new.out c.each.ensures in
    IfOk-weaker c.into_bytes.result _ _ (λ bytes.
    Adds-whole (each program_tokens (map program_of c.args.tree.now.programs)) c.new-out.result c.each.new.out bytes.items c.new-out.ensures programs) c.into_bytes.ensures
