use Rattle.std.proofs.Common.{◌∙◌}
use Rattle.htl_platform.proofs.TableLaws.{length-entries}
use Rattle.htl_platform.proofs.table.entry_count.Goals as goal

pub returns-clause-value : goal.returns-clause-value
returns-clause-value c = c.len.ensures.len ∙ length-entries c.args.table.now.entries
