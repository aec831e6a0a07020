use Rattle.htl_espell.proofs.ModeFaults.{judged}
use Rattle.htl_espell.proofs.spelling.spells.Goals as goal

pub returns-clause-spelled : goal.returns-clause-spelled
returns-clause-spelled c = judged c.args.t.now c.args.code.now c.check_modes.result c.check_modes.ensures
