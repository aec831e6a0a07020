use Rattle.std.proofs.Common.{arith, [], sym, subst}
use Rattle.htl_audit.specs.Auditing.{IsAudited}
use Rattle.htl_part_tests.proofs.runs.audit_tests.verdict_at_end.Goals as goal

pub finish-requires-clause-follows : goal.finish-requires-clause-follows
finish-requires-clause-follows c = ([], c.requires)

pub finish-requires-clause-order : goal.finish-requires-clause-order
finish-requires-clause-order c = omega (arith, c.requires.machine.kept.reading)

pub verdict-requires : goal.verdict-requires
verdict-requires c =
    let ended = c.in-Ok.ensures.audited [] c.requires in
    ([], subst (IsAudited c.finish.new.self []) (sym ended.machine.reading) ended)
