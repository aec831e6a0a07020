use Rattle.htl_refine.proofs.OwnRounds.{all_own_starts}
use Rattle.htl_refine.proofs.laws.own_starts.Goals as goal

pub returns : goal.returns
returns c = all_own_starts
