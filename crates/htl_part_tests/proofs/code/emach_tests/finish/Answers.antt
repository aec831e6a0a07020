use Rattle.htl_part_tests.proofs.code.emach_tests.finish.Goals as goal

pub complete-requires-clause-known : goal.complete-requires-clause-known
complete-requires-clause-known c = c.is_with_code.ensures.known c.if-not-is_with_code.false

pub complete-requires-clause-concrete : goal.complete-requires-clause-concrete
complete-requires-clause-concrete c = c.is_with_code.ensures.concrete c.if-not-is_with_code.false
