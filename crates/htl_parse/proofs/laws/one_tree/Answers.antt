use Rattle.htl_text.specs.Placed.{tokens_numbered}
use Rattle.htl_parse.proofs.Whole.{one_tree-law}
use Rattle.htl_parse.proofs.laws.one_tree.Goals as goal

pub returns : goal.returns
returns c = λ tokens. one_tree-law (tokens_numbered 0 tokens)
