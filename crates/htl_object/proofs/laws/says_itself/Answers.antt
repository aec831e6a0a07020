use Rattle.htl_object.proofs.ObjectLaws.{says_itself}
use Rattle.htl_object.proofs.laws.says_itself.Goals as goal

pub returns : goal.returns
returns c = says_itself
