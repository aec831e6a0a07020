use Rattle.htl_ecode.proofs.SpellingLaws.{spells_or_departs}
use Rattle.htl_ecode.proofs.laws.spells_or_departs.Goals as goal

pub returns : goal.returns
returns c = λ t code. spells_or_departs t code
