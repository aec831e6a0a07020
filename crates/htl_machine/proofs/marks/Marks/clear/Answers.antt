use Rattle.std.proofs.Common.{refl}
use Rattle.htl_machine.proofs.MarkRows.{unmarked}
use Rattle.htl_machine.proofs.marks.Marks.clear.Goals as goal

pub returns : goal.returns
returns c = λ k. unmarked _ k refl
