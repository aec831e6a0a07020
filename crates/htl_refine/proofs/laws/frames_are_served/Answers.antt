use Rattle.htl_refine.proofs.ServedFrames.{frames_are_served}
use Rattle.htl_refine.proofs.laws.frames_are_served.Goals as goal

pub returns : goal.returns
returns c = frames_are_served
