use Rattle.htl_walk.proofs.{Words.List, Words.length, Words.subst, Words.SInstr, Words.IsFirstDeparture, Acceptance.refused}
use Rattle.htl_walk.specs.declared.miss.Miss.TheVariants as miss
use Rattle.htl_walk.proofs.worst_case.worst.Goals as goal

pub returns-in-Some-clause-refused : goal.returns-in-Some-clause-refused
returns-in-Some-clause-refused c =
    refused c.args.jobs.now c.args.period c.args.s.now.instrs (miss.Order c.in-Some.instr)
    (subst (λ (s : List SInstr). IsFirstDeparture (length c.args.jobs.now) c.args.period s c.in-Some.instr) c.as_slice-instrs.ensures c.in-Some.ensures)
