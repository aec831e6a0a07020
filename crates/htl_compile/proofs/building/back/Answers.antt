use Rattle.htl_compile.proofs.Answering.{back_only, back_refused}
use Rattle.htl_compile.proofs.building.back.Goals as goal

pub returns-clause-only : goal.returns-clause-only
returns-clause-only c = λ formed free. back_only c.args.t formed free c.back_for.result c.back_for.ensures.fault

pub returns-clause-refused : goal.returns-clause-refused
returns-clause-refused c = λ f told is. back_refused c.args.t f told is c.keeps_ranges.ensures.ranges c.back_for.result c.back_for.ensures.formed c.back_for.ensures.schedulable c.back_for.ensures.fault
