use Rattle.htl_exchange.proofs.Exchanged.{shows_same}
use Rattle.htl_exchange.proofs.laws.unreached_shows_the_same.Goals as goal

pub returns : goal.returns
returns c = shows_same
