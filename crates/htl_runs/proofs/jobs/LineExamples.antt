-- The job lines of worked runs, computed.
use Rattle.htl_runs.proofs.Words.{arith, filter, At, Sense, Took, Ends, preempted, doubling, Job, SInstr, RunLine, printed, job_lines_to, text_lines, begins_as_job, SliceLine, DoneLine, StepLine, TotalsLine, IsToldInTime}
use Rattle.std.specs.Prelude.{◌≡◌, List, [], ◌∷◌, pos, true, Some, refl, codes}
use Rattle.std.specs.Fmt.{digits}
use Rattle.htl_walk.specs.declared.schedule.SInstr.TheVariants.{Dispatch, End}

-- ---- each kind of line as it is printed

slice_is_printed : printed doubling (SliceLine 0 4 0) ≡ codes "j 0 4 M.m.dbl\n"
unfolding digits
slice_is_printed = refl

done_is_printed : printed doubling (DoneLine 4 0) ≡ codes "d 4 M.m.dbl\n"
unfolding digits
done_is_printed = refl

step_is_printed : printed doubling (StepLine 4 0 0 (Dispatch 0 4)) ≡ codes "s 4 0:0 dispatch 0 until 4\n"
unfolding digits
step_is_printed = refl

totals_are_printed : printed doubling (TotalsLine 10 1 10 2) ≡ codes "end 10 jobs 1 e 10 s 2\n"
unfolding digits
totals_are_printed = refl

-- ---- the job lines of whole runs

abbrev twice : List (List SInstr)
twice = (Dispatch 0 2 ∷ Dispatch 1 5 ∷ Dispatch 0 10 ∷ End ∷ []) ∷ []

abbrev doubled : List RunLine
doubled = SliceLine 0 4 0 ∷ DoneLine 4 0 ∷ []

lines_of_doubled : job_lines_to doubling ((Dispatch 0 4 ∷ End ∷ []) ∷ []) (At 0 ∷ Sense 0 (pos 3) ∷ At 10 ∷ Sense 0 (pos 5) ∷ Ends 10 ∷ []) 10 ≡ doubled
lines_of_doubled = refl

-- one job interrupts the other
abbrev interrupted : List RunLine
interrupted = SliceLine 0 2 0 ∷ SliceLine 2 5 1 ∷ DoneLine 5 1 ∷ SliceLine 5 10 0 ∷ DoneLine 10 0 ∷ []

lines_of_interrupted : job_lines_to preempted twice (Ends 10 ∷ []) 10 ≡ interrupted
lines_of_interrupted = refl

-- the slice that is open at the end has no line
lines_before_the_end : job_lines_to preempted twice (Ends 8 ∷ []) 8 ≡ SliceLine 0 2 0 ∷ SliceLine 2 5 1 ∷ DoneLine 5 1 ∷ []
lines_before_the_end = refl

-- a job that is done early: the other waits for its release
lines_of_early : job_lines_to preempted twice (At 0 ∷ Took 0 1 ∷ Ends 10 ∷ []) 10 ≡ SliceLine 0 1 0 ∷ DoneLine 1 0 ∷ SliceLine 2 5 1 ∷ DoneLine 5 1 ∷ []
lines_of_early = refl

-- ---- a text as a reader cuts it

cut_and_chosen : filter begins_as_job (text_lines (codes "m 0 M m\nj 0 4 M.m.dbl\nd 4 M.m.dbl\nv 10 u 6\n"))
    ≡ codes "j 0 4 M.m.dbl\n" ∷ codes "d 4 M.m.dbl\n" ∷ []
cut_and_chosen = refl

-- ---- a job of the lines, in time

-- released at 0, with a window up to 10 and 7 ticks; it runs from 0 to 2 and from 5 to 10
abbrev first : Job
first = record { present = true; inv = 0; release = 0; end = 10; worst = 7; preds = 0 }

first_is_told : IsToldInTime interrupted 0 10 0 first 7 (Some 10)
first_is_told = record { done_at = 10; done = refl; exact = refl; in_time = omega arith; within = (omega arith, omega arith, (omega arith, omega arith, tt)); whole = refl }

-- one of two rounds that its module has in the frame from 0, beside a module that has one: of the two d lines of its invocation one counts
abbrev of_two_periods : List RunLine
of_two_periods = SliceLine 0 3 0 ∷ DoneLine 3 0 ∷ SliceLine 3 10 1 ∷ SliceLine 10 12 1 ∷ DoneLine 12 1 ∷ SliceLine 12 15 0 ∷ DoneLine 15 0 ∷ []

abbrev later : Job
later = record { present = true; inv = 0; release = 10; end = 20; worst = 3; preds = 0 }

later_is_told : IsToldInTime of_two_periods 10 20 0 later 3 (Some 15)
later_is_told = record { done_at = 15; done = refl; exact = refl; in_time = omega arith; within = (omega arith, omega arith, tt); whole = refl }
