use Rattle.std.proofs.Common.{sym, ◌∙◌}
use Rattle.htl_form.proofs.SearchLaws.{kept, first}
use Rattle.htl_form.proofs.answer.form.Goals as goal

pub returns-clause-kept : goal.returns-clause-kept
returns-clause-kept c = kept c.args.t.now c.keeps_ranges.ensures.ranges (sym c.first_fault.ensures ∙ c.in-None.is)

pub returns-in-Some-clause-first : goal.returns-in-Some-clause-first
returns-in-Some-clause-first c = first c.args.t.now c.keeps_ranges.ensures.ranges c.in-Some.fault (sym c.first_fault.ensures ∙ c.in-Some.is)
