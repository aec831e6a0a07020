use Rattle.htl_model.proofs.FrameRules.{kept_apart}
use Rattle.htl_part_tests.proofs.schedules.refine_tests.path.Goals as goal

pub derive_path-requires-clause-kept : goal.derive_path-requires-clause-kept
derive_path-requires-clause-kept c = kept_apart c.args.t.now 16 c.in_default.ensures
