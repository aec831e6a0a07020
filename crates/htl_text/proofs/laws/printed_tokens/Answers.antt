use Rattle.htl_text.proofs.Reprinted.{printed-tokens}
use Rattle.htl_text.proofs.laws.printed_tokens.Goals as goal

pub returns : goal.returns
returns c = printed-tokens
