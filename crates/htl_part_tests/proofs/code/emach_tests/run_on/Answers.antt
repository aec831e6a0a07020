use Rattle.htl_part_tests.proofs.code.emach_tests.run_on.Goals as goal

pub run_code-requires-clause-formed : goal.run_code-requires-clause-formed
run_code-requires-clause-formed c = c.is_formed.ensures.formed c.if-not-is_formed.false
