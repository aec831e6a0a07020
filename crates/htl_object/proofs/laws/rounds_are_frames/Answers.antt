use Rattle.htl_walk.proofs.OneRound.{no_limit, nodes_are, feasible, each_round}
use Rattle.htl_object.proofs.laws.rounds_are_frames.Goals as goal

pub returns : goal.returns
returns c = λ t lists r kept one limits. (no_limit t r kept one limits, nodes_are t r kept one, (feasible t r kept one lists, each_round t r kept one lists))
