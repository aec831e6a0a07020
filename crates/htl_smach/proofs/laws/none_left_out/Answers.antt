use Rattle.htl_smach.proofs.Timely.{none_left_out}
use Rattle.htl_smach.proofs.laws.none_left_out.Goals as goal

pub returns : goal.returns
returns c = λ r s until st whole by none. none_left_out r s until st whole by none
