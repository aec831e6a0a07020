use Rattle.std.proofs.Common.{◌≡◌, ◌≤◌, ◌+◌, ◌∙◌, List, length, sym, subst}
use Rattle.htl_edf.proofs.{Words.NoOverload, Words.SInstr, Words.ScheduleIsAccepted, Words.edf_schedule, Words.tightened, Cutting.whole_part, InTime.none_overloaded, Walking.meets_and_accepted, Walking.schedule_short}
use Rattle.htl_edf.proofs.scheduler.schedule.Goals as goal

is_edf : (c : goal.After-new) → c.in-Ok.part.instrs.items ≡ edf_schedule c.args.jobs.now c.args.period
is_edf c = c.in-Ok.ensures.part ∙ whole_part c.args.jobs.now c.args.period

fits : (c : goal.After-new) → NoOverload (tightened c.args.jobs.now)
fits c =
    let e = c.in-Ok.ensures in
    none_overloaded c.args.jobs.now c.requires.jobs c.args.period c.run_part.new.left (e.in_time c.if-part.true).1 e.lefts e.left_same (c.are_done-is_done.ensures c.if-is_done.true)

pub returns-then-is_done-clause-schedule : goal.returns-then-is_done-clause-schedule
returns-then-is_done-clause-schedule c = c.new.ensures ∙ is_edf c

pub returns-then-is_done-clause-accepted : goal.returns-then-is_done-clause-accepted
returns-then-is_done-clause-accepted c =
    subst (ScheduleIsAccepted c.args.jobs.now c.args.period) (sym (c.new.ensures ∙ is_edf c)) (meets_and_accepted c.args.jobs.now c.requires.jobs c.requires.order c.args.period c.requires.ends (fits c)).1

pub returns-then-is_done-clause-short : goal.returns-then-is_done-clause-short
returns-then-is_done-clause-short c =
    subst (λ (s : List SInstr). length s ≤ c.args.period + 1) (sym (c.new.ensures ∙ is_edf c)) (schedule_short c.args.jobs.now c.args.period)

pub returns-then-is_done-clause-fits : goal.returns-then-is_done-clause-fits
returns-then-is_done-clause-fits c = fits c

pub returns-clause-fault : goal.returns-clause-fault
returns-clause-fault c = c.refusal-2.ensures c.args.period

pub returns-in_default-clause-fault : goal.returns-in_default-clause-fault
returns-in_default-clause-fault c = c.refusal.ensures c.args.period
