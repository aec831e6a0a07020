use Rattle.htl_audit.proofs.OwnLines.{own_log_is_printed}
use Rattle.htl_audit.proofs.laws.own_log_is_printed.Goals as goal

pub returns : goal.returns
returns c = λ o es show end shows. own_log_is_printed o es show end shows
