use Rattle.htl_object.proofs.selections.positions.Goals as goal
use Rattle.htl_base.proofs.Places.{all_zero}

pub count_invs-requires : goal.count_invs-requires
count_invs-requires c = λ m. all_zero 256 m
