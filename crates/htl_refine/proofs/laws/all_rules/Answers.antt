use Rattle.htl_refine.proofs.OneFault.{formed, kept_all}
use Rattle.htl_refine.proofs.laws.all_rules.Goals as goal

pub returns : goal.returns
returns c = λ t. (λ kept. formed t kept, λ all. kept_all t all)
