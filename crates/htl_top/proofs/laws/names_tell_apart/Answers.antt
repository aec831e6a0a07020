use Rattle.htl_top.proofs.NamesApart.{names_tell}
use Rattle.htl_top.proofs.laws.names_tell_apart.Goals as goal

pub returns : goal.returns
returns c = names_tell
