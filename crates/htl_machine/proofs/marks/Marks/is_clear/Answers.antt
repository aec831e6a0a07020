use Rattle.htl_machine.proofs.MarkRows.{unmarked}
use Rattle.std.proofs.lemmas.Bool.{eqb-true}
use Rattle.htl_machine.proofs.marks.Marks.is_clear.Goals as goal

pub returns : goal.returns
returns c = λ yes k. unmarked c.args.self.now k (eqb-true c.args.self.now.used 0 yes)
