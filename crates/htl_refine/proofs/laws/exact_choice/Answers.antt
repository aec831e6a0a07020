use Rattle.htl_refine.proofs.Exact.{chosen_exact}
use Rattle.htl_refine.proofs.laws.exact_choice.Goals as goal

pub returns : goal.returns
returns c = λ t modes k range kept. chosen_exact t modes range kept k
