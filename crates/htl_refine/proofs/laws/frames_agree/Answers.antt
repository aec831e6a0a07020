use Rattle.htl_refine.proofs.FramesAgree.{frames_agree}
use Rattle.htl_refine.proofs.laws.frames_agree.Goals as goal

pub returns : goal.returns
returns c = frames_agree
