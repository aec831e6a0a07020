use Rattle.htl_refine.proofs.RecordLists.{no_old_records}
use Rattle.htl_refine.proofs.laws.no_old_records.Goals as goal

pub returns : goal.returns
returns c = no_old_records
