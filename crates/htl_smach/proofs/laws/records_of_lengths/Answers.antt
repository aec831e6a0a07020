use Rattle.htl_smach.proofs.Timely.{records_of_lengths}
use Rattle.htl_smach.proofs.laws.records_of_lengths.Goals as goal

pub returns : goal.returns
returns c = λ r s st first. records_of_lengths r s st first
