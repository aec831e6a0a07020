use Rattle.htl_part_tests.proofs.schedules.greatest_tests.report_of.Goals as goal

pub edf_nodes-requires-clause-formed : goal.edf_nodes-requires-clause-formed
edf_nodes-requires-clause-formed c = c.is_formed.ensures.formed c.if-not-is_formed.false

pub slack-requires-clause-formed : goal.slack-requires-clause-formed
slack-requires-clause-formed c = c.is_formed.ensures.formed c.if-not-is_formed.false
