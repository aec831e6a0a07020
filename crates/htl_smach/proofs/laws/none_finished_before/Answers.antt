use Rattle.htl_smach.proofs.RoundRecords.{none_before}
use Rattle.htl_smach.proofs.laws.none_finished_before.Goals as goal

pub returns : goal.returns
returns c = λ r s p st first. none_before r s p st first
