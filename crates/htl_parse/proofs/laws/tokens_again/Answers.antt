use Rattle.htl_parse.proofs.Reparsing.{source-again}
use Rattle.htl_parse.proofs.laws.tokens_again.Goals as goal

pub returns : goal.returns
returns c = source-again
