use Rattle.htl_text.proofs.{Writing.Adds-each_of, Words.switch_of, Words.switch_tokens}
use Rattle.htl_text.proofs.printing.ModeNodePrint.print.Goals as goal

pub returns : goal.returns
returns c more all e =
    let switches = Adds-each_of switch_of switch_tokens c.args.self.now.switches c.each.new.out c.each-2.new.out c.each-2.ensures in
    c.tokens.ensures _ all (c.print.ensures _ all (c.clause.ensures _ all (c.tokens-2.ensures _ all (c.ports.ensures _ all (c.each.ensures _ all (switches _ all (c.tokens-3.ensures more all e)))))))
