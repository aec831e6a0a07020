use Rattle.htl_emach.proofs.{Words.arith, Words.spelled_departs_not, Instants.passes_instant, Soundness.sound}
use Rattle.htl_emach.proofs.laws.instants_follow.Goals as goal

pub returns : goal.returns
returns c = λ t code es now r kept spelled. passes_instant t code es now (sound t code 12 (omega arith) r kept (spelled_departs_not t code spelled))
