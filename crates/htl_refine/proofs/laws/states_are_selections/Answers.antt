use Rattle.htl_refine.proofs.StateLaws.{states_are_selections}
use Rattle.htl_refine.proofs.laws.states_are_selections.Goals as goal

pub returns : goal.returns
returns c = λ t es now range. states_are_selections t range es now
