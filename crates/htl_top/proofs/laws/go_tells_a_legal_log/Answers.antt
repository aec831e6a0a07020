use Rattle.htl_top.proofs.JobMeaning.{go_legal_log}
use Rattle.htl_top.proofs.laws.go_tells_a_legal_log.Goals as goal

pub returns : goal.returns
returns c = go_legal_log
