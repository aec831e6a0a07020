use Rattle.htl_parse.proofs.Reparsing.{parses_again-law}
use Rattle.htl_parse.proofs.laws.parses_again.Goals as goal

pub returns : goal.returns
returns c = parses_again-law
