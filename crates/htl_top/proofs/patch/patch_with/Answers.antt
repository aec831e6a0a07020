use Rattle.htl_top.proofs.patch.patch_with.Goals as goal

pub patch_from-requires : goal.patch_from-requires
patch_from-requires g c = c.in-Ok.ensures.found.0.ranges

pub returns-in-Ok-clause-answer : goal.returns-in-Ok-clause-answer
returns-in-Ok-clause-answer g c = c.patch_from.ensures.answer c.args.donor.now (record { object = c.in-Ok.ensures.found.0; spelled = c.in-Ok.ensures.found.1 })
