use Rattle.htl_object.proofs.notes.ReadMarks.new.Goals as goal
use Rattle.htl_base.proofs.Places.{none_marked}

pub returns : goal.returns
returns c = λ k few. none_marked 1024 k
