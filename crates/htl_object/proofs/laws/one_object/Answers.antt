use Rattle.htl_object.proofs.ObjectLaws.{one_object}
use Rattle.htl_object.proofs.laws.one_object.Goals as goal

pub returns : goal.returns
returns c = one_object
