use Rattle.htl_exchange.proofs.Exchanged.{takes_same}
use Rattle.htl_exchange.proofs.laws.unreached_takes_the_same_paths.Goals as goal

pub returns : goal.returns
returns c = takes_same
