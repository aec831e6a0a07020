use Rattle.htl_walk.proofs.Dominance.{dominance}
use Rattle.htl_walk.proofs.laws.dominance.Goals as goal

pub returns : goal.returns
returns c = λ js ks lengths s period all refined least most accepted. dominance js ks lengths s period all refined least most accepted
