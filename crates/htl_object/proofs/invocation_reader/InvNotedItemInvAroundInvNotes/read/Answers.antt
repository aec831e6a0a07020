use Rattle.htl_object.proofs.{Words.sym, Words.Inv, Noting.inv_more}
use Rattle.htl_object.proofs.invocation_reader.InvNotedItemInvAroundInvNotes.read.Goals as goal

pub returns-clause-noted : goal.returns-clause-noted
returns-clause-noted c =
    let x : Inv = record { mode = c.in_ok-mode.mode; task = c.in_ok-task.task; parent = c.in_ok-parent.parent; reads = c.new.result; writes = c.new-2.result } in
    inv_more c.turn_to.new.self c.add.new.self c.args.before.now x c.turn_to.ensures.counts c.add.ensures (sym c.turn_to.ensures.mode)
