-- A worked run of two root modules of periods 10 and 20, whose jobs a and b take 3 and 9 ticks.
use Rattle.std.specs.Prelude.{◌≡◌, List, [], ◌∷◌, Some, refl, map}
use Rattle.htl_model.proofs.Sources.{two_periods}
use Rattle.htl_runs.proofs.Words.{Dispatch, Ends, SInstr, SliceLine, DoneLine, job_lines_to, inv_period}
use Rattle.htl_walk.specs.declared.schedule.SInstr.TheVariants.{End}
use Rattle.htl_times.specs.Response.{worst_finish}
use Rattle.htl_told.specs.Laws.{round_begin}

abbrev node_lists : List (List SInstr)
node_lists = (Dispatch 0 3 ∷ Dispatch 1 10 ∷ End ∷ []) ∷ (Dispatch 1 12 ∷ Dispatch 2 15 ∷ End ∷ []) ∷ []

-- b is interrupted where the second list begins
lines_of_run : job_lines_to two_periods node_lists (Ends 20 ∷ []) 20
    ≡ SliceLine 0 3 0 ∷ DoneLine 3 0 ∷ SliceLine 3 10 1 ∷ SliceLine 10 12 1 ∷ DoneLine 12 1 ∷ SliceLine 12 15 0 ∷ DoneLine 15 0 ∷ []
lines_of_run = refl

-- the three positions finish at most 3, 12 and 15 ticks after the frame's start: so a 5 after its round's, in the second, and b 12
finishes : map (worst_finish two_periods node_lists 0) (0 ∷ 1 ∷ 2 ∷ []) ≡ Some 3 ∷ Some 12 ∷ Some 15 ∷ []
finishes = refl

-- the rounds of the d lines begin at 0, 0 and 10, so the lines of b and of a's second job are as late as can be
rounds_of_lines : round_begin (inv_period two_periods 0) 3 ∷ round_begin (inv_period two_periods 1) 12 ∷ round_begin (inv_period two_periods 0) 15 ∷ []
    ≡ 0 ∷ 0 ∷ 10 ∷ []
rounds_of_lines = refl

-- an instant at which two rounds meet lies in the first
round_of_end : round_begin 10 10 ∷ round_begin 10 11 ∷ [] ≡ 0 ∷ 10 ∷ []
round_of_end = refl
