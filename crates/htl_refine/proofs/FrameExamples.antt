-- Worked examples: the records of runs of two root modules of periods 10 and 20.
use Rattle.std.specs.Prelude.{◌≡◌, ℕ, List, [], ◌∷◌, Some, None, true, false, refl, map}
use Rattle.htl_refine.proofs.Words.{Event, At, Took, Ends, two_periods, SInstr, Dispatch, End, path_point_at, Left, hyper, frame_at, records, old_records, new_records}

abbrev node_lists : List (List SInstr)
node_lists = (Dispatch 0 3 ∷ Dispatch 1 10 ∷ End ∷ []) ∷ (Dispatch 1 12 ∷ Dispatch 2 15 ∷ End ∷ []) ∷ []

abbrev run : List Event
run = Ends 20 ∷ []

frame : hyper two_periods ≡ Some 20
frame = refl

-- the job of b goes on in the second list
jobs : (frame_at two_periods node_lists run 0).jobs
    ≡ record { present = true; inv = 0; release = 0; end = 10; worst = 3; preds = 0 }
    ∷ record { present = true; inv = 1; release = 0; end = 20; worst = 9; preds = 0 }
    ∷ record { present = true; inv = 0; release = 10; end = 20; worst = 3; preds = 0 } ∷ []
jobs = refl

-- of which two ticks are left there
second : (let f = frame_at two_periods node_lists run 0 in path_point_at f.jobs f.lengths f.lists f.legs 1 0) ≡ record { time = 10; left = 0 ∷ 2 ∷ 3 ∷ [] }
second = refl

abbrev ran : ℕ → ℕ → ℕ → ℕ → Left
ran p from to at = record { at = at; position = Some p; slice = Some (from, to); finished = true }

at_three : records two_periods node_lists run 3 ≡ (0, ran 0 0 3 3) ∷ []
at_three = refl

-- the first list ends where the second begins
at_ten : old_records two_periods node_lists run 10
    ≡ (1, record { at = 10; position = Some 1; slice = Some (3, 10); finished = false }) ∷ (2, record { at = 10; position = None; slice = None; finished = false }) ∷ []
at_ten = refl

none_new : new_records two_periods node_lists run 10 ≡ []
none_new = refl

at_twelve : records two_periods node_lists run 12 ≡ (0, ran 1 10 12 12) ∷ []
at_twelve = refl

at_fifteen : records two_periods node_lists run 15 ≡ (1, ran 2 12 15 15) ∷ (2, record { at = 15; position = None; slice = None; finished = false }) ∷ []
at_fifteen = refl

-- the second frame is as the first, 20 ticks later
next_frame : map (records two_periods node_lists (Ends 40 ∷ [])) (20 ∷ 23 ∷ 32 ∷ []) ≡ [] ∷ ((0, ran 0 20 23 23) ∷ []) ∷ ((0, ran 1 30 32 32) ∷ []) ∷ []
next_frame = refl

-- where b takes one tick in the first frame, the second list of that frame begins without it
abbrev short : List Event
short = At 0 ∷ Took 1 1 ∷ Ends 20 ∷ []

early : records two_periods node_lists short 4 ≡ (1, ran 1 3 4 4) ∷ (2, record { at = 4; position = None; slice = None; finished = false }) ∷ []
early = refl

skipped : map (λ l. l.1) (new_records two_periods node_lists short 10) ≡ record { at = 10; position = Some 1; slice = None; finished = false } ∷ []
skipped = refl
