use Rattle.htl_ecode.proofs.SpellingLaws.{blocks_stand}
use Rattle.htl_ecode.proofs.laws.blocks_stand.Goals as goal

pub returns : goal.returns
returns c = λ t code m s below. blocks_stand t code m s below
