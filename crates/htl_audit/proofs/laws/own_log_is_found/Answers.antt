use Rattle.htl_audit.proofs.OwnLines.{own_log_is_found}
use Rattle.htl_audit.proofs.laws.own_log_is_found.Goals as goal

pub returns : goal.returns
returns c = λ o es show end names shows. own_log_is_found o es show end names shows
