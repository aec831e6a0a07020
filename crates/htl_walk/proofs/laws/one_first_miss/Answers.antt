use Rattle.htl_walk.proofs.FirstMiss.{one_first_miss}
use Rattle.htl_walk.proofs.laws.one_first_miss.Goals as goal

pub returns : goal.returns
returns c = λ jobs period s m n a b. one_first_miss jobs period s m n a b
