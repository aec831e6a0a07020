use Rattle.htl_audit.proofs.ComputedLaw.{legal_log_gives_the_meaning}
use Rattle.htl_audit.proofs.laws.legal_log_gives_the_meaning.Goals as goal

pub returns : goal.returns
returns c = λ o es end log accepted within legal now late. legal_log_gives_the_meaning o es end log accepted within legal now late
