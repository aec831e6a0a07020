use Rattle.htl_text.proofs.OneCut.{Tokens-unique}
use Rattle.htl_text.proofs.laws.one_token_list.Goals as goal

pub returns : goal.returns
returns c = Tokens-unique
