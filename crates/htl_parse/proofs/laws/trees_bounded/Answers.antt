use Rattle.htl_parse.proofs.Bounded.{tree-bounded}
use Rattle.htl_parse.proofs.laws.trees_bounded.Goals as goal

pub returns : goal.returns
returns c = tree-bounded
