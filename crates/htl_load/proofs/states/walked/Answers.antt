use Rattle.std.proofs.Common.{List, length, IfErr, ◌∙◌, ap, subst}
use Rattle.htl_load.proofs.Words.{kept_apart, kept_12, IsFirstFailing, instrs_of, Schedule}
use Rattle.htl_load.proofs.states.walked.Goals as goal

pub worst_all-requires-clause-limits : goal.worst_all-requires-clause-limits
worst_all-requires-clause-limits c = c.requires.ranges.frames

pub worst_all-requires-clause-formed : goal.worst_all-requires-clause-formed
worst_all-requires-clause-formed c = let o = c.args.o.now in kept_apart o.tables 12 (kept_12 o.tables c.requires.formed)

pub worst_all-requires-clause-lists : goal.worst_all-requires-clause-lists
worst_all-requires-clause-lists c = ap length c.as_slice.ensures ∙ c.requires.ranges.schedules

pub returns-clause-missed : goal.returns-clause-missed
returns-clause-missed c =
    subst (λ (ss : List Schedule). IfErr c.worst_all.result (λ e. IsFirstFailing c.args.o.now.tables (instrs_of ss) e.0 e.1)) c.as_slice.ensures c.worst_all.ensures.missed
