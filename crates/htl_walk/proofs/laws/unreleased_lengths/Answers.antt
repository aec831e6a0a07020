use Rattle.htl_walk.proofs.Unreleased.{unreleased_lengths}
use Rattle.htl_walk.proofs.laws.unreleased_lengths.Goals as goal

pub returns : goal.returns
returns c = λ jobs ns ms s t a b agree. unreleased_lengths jobs ns ms s t a b agree
