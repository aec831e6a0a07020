use Rattle.htl_emach.proofs.Overdue.{nothing_overdue}
use Rattle.htl_emach.proofs.laws.nothing_overdue.Goals as goal

pub returns : goal.returns
returns c = nothing_overdue
