use Rattle.htl_form.proofs.CommonMultiples.{frames_are_least}
use Rattle.htl_form.proofs.laws.frames_are_least.Goals as goal

pub returns : goal.returns
returns c = frames_are_least
