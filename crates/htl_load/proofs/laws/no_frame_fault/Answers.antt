use Rattle.htl_load.proofs.Refusals.{no_frame_fault}
use Rattle.htl_load.proofs.laws.no_frame_fault.Goals as goal

pub returns : goal.returns
returns c = no_frame_fault
