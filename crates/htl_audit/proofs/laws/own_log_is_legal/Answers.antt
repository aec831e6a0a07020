use Rattle.htl_audit.proofs.OwnLegal.{own_log_is_legal}
use Rattle.htl_audit.proofs.laws.own_log_is_legal.Goals as goal

pub returns : goal.returns
returns c = λ o es end accepted within. own_log_is_legal o es end accepted within
