use Rattle.htl_audit.proofs.FrameStarts.{audited_jobs}
use Rattle.htl_audit.proofs.laws.audited_jobs_are_the_frames.Goals as goal

pub returns : goal.returns
returns c = λ t lists es now some. audited_jobs t lists es now some
