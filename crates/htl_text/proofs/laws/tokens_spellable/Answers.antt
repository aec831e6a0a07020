use Rattle.htl_text.proofs.Spellable.{tokens-spellable}
use Rattle.htl_text.proofs.laws.tokens_spellable.Goals as goal

pub returns : goal.returns
returns c = tokens-spellable
