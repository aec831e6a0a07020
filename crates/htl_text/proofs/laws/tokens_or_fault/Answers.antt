use Rattle.htl_text.proofs.FirstFault.{Tokens-sound}
use Rattle.htl_text.proofs.laws.tokens_or_fault.Goals as goal

pub returns : goal.returns
returns c = Tokens-sound
