use Rattle.std.proofs.Common.{sym, ◌∙◌}
use Rattle.htl_refine.proofs.SearchLaws.{kept_all, first}
use Rattle.htl_refine.proofs.answer.refine.Goals as goal

pub returns-in-None-clause-kept : goal.returns-in-None-clause-kept
returns-in-None-clause-kept c = kept_all c.args.t.now c.keeps_ranges.ensures.ranges c.requires (sym c.first_fault.ensures ∙ c.in-None.is)

pub returns-in-Some-clause-first : goal.returns-in-Some-clause-first
returns-in-Some-clause-first c = first c.args.t.now c.keeps_ranges.ensures.ranges c.requires c.in-Some.fault (sym c.first_fault.ensures ∙ c.in-Some.is)
