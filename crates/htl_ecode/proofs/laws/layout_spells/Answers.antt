use Rattle.htl_ecode.proofs.SpellingLaws.{layout_spells}
use Rattle.htl_ecode.proofs.laws.layout_spells.Goals as goal

pub returns : goal.returns
returns c = λ t. layout_spells t
