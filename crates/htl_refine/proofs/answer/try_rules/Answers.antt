use Rattle.htl_refine.proofs.OneFault.{formed_after}
use Rattle.htl_refine.proofs.answer.try_rules.Goals as goal

pub returns-clause-formed : goal.returns-clause-formed
returns-clause-formed c = formed_after c.args.t.now c.refine.result c.refine.ensures.kept
