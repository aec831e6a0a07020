use Rattle.htl_refine.proofs.RecordLists.{no_new_records}
use Rattle.htl_refine.proofs.laws.no_new_records.Goals as goal

pub returns : goal.returns
returns c = no_new_records
