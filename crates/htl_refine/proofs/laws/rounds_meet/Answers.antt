use Rattle.htl_refine.proofs.RoundLaws.{rounds_meet}
use Rattle.htl_refine.proofs.laws.rounds_meet.Goals as goal

pub returns : goal.returns
returns c = λ t schedules es start period range kept within accepted. rounds_meet t schedules es start period range kept within accepted
