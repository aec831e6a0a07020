use Rattle.htl_refine.proofs.RecordLists.{old_records}
use Rattle.htl_refine.proofs.laws.old_records.Goals as goal

pub returns : goal.returns
returns c = old_records
