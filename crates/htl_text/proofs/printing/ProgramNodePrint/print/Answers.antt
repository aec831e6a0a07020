use Rattle.htl_text.proofs.{Writing.Adds-each_of, Words.module_of, Words.module_tokens}
use Rattle.htl_text.proofs.printing.ProgramNodePrint.print.Goals as goal

pub returns : goal.returns
returns c more all e =
    let modules = Adds-each_of module_of module_tokens c.args.self.now.modules c.each.new.out c.each-2.new.out c.each-2.ensures in
    c.tokens.ensures _ all (c.each.ensures _ all (modules _ all (c.tokens-2.ensures more all e)))
