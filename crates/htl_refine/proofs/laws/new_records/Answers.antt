use Rattle.htl_refine.proofs.RecordLists.{new_records}
use Rattle.htl_refine.proofs.laws.new_records.Goals as goal

pub returns : goal.returns
returns c = new_records
