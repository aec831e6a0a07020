use Rattle.htl_text.proofs.{Writing.Adds-each_of, Words.task_of, Words.mode_of, Words.task_tokens, Words.mode_tokens}
use Rattle.htl_text.proofs.printing.ModuleNodePrint.print.Goals as goal

pub returns : goal.returns
returns c more all e =
    let tasks = Adds-each_of task_of task_tokens c.args.self.now.tasks c.tokens.new.self c.each.new.out c.each.ensures in
    let modes = Adds-each_of mode_of mode_tokens c.args.self.now.modes c.each.new.out c.each-2.new.out c.each-2.ensures in
    c.tokens.ensures _ all (tasks _ all (modes _ all (c.tokens-2.ensures more all e)))
