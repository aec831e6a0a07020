use Rattle.htl_refine.proofs.OneFrame.{one_frame_records}
use Rattle.htl_refine.proofs.laws.one_frame_records.Goals as goal

pub returns : goal.returns
returns c = one_frame_records
