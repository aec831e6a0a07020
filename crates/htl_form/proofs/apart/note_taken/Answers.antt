use Rattle.std.proofs.Common.{◌∙◌}
use Rattle.htl_form.proofs.OwnerLaws.{none_shared, all_noted}
use Rattle.htl_form.proofs.apart.note_taken.Goals as goal

pub returns-then-writes_shared-clause-noted : goal.returns-then-writes_shared-clause-noted
returns-then-writes_shared-clause-noted c =
    all_noted c.args.t.now c.args.run.mode c.args.run.base c.args.run.count c.mark_taken.new.taken (c.mark_taken.ensures.len ∙ c.requires.len) c.mark_taken.ensures.taken

pub returns-else-writes_shared-clause-noted : goal.returns-else-writes_shared-clause-noted
returns-else-writes_shared-clause-noted c =
    none_shared c.args.t.now c.args.run.mode c.mode_module-module.result c.args.run.base c.args.run.count c.args.owners.now c.args.taken.now c.requires.range c.requires.owners
    c.mode_module-module.ensures (c.writes_shared.ensures c.if-writes_shared.false)
