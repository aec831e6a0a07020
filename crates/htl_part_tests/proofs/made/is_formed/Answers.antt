use Rattle.htl_model.proofs.FrameRules.{kept_apart}
use Rattle.htl_part_tests.proofs.made.is_formed.Goals as goal

pub returns-in-Ok-clause-formed : goal.returns-in-Ok-clause-formed
returns-in-Ok-clause-formed c = λ _. kept_apart c.args.t.now 12 c.in-Ok.ensures.kept
