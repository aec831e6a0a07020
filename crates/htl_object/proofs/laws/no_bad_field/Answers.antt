use Rattle.htl_object.proofs.ObjectLaws.{no_bad_field}
use Rattle.htl_object.proofs.laws.no_bad_field.Goals as goal

pub returns : goal.returns
returns c = no_bad_field
