use Rattle.htl_object.proofs.ObjectLaws.{one_spelling}
use Rattle.htl_object.proofs.laws.one_spelling.Goals as goal

pub returns : goal.returns
returns c = one_spelling
