use Rattle.std.proofs.Common.{◌∙◌}
use Rattle.htl_open.proofs.Putting.{Tells-put}
use Rattle.htl_top.proofs.fault_line.report.Goals as goal

pub returns-clause-told : goal.returns-clause-told
returns-clause-told g c = Tells-put _ _ _ _ _ _ _ (c.as_bytes.ensures.bytes ∙ c.fault_line-line.ensures) c.put_all.ensures
