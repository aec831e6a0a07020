-- The schedule of earliest deadline first.
use Rattle.std.specs.Prelude.{ℕ, List, [], ◌∷◌, ◌++◌, Option, Some, None}
use Rattle.htl_walk.specs.{declared.job.Job.Job, declared.schedule.SInstr.SInstr, declared.schedule.SInstr.TheVariants.Dispatch, declared.schedule.SInstr.TheVariants.End}
use Rattle.htl_edf.specs.{Edf.Slice, Edf.edf, Edf.maximal_slices, Lists.tightened}

-- a dispatch for each of the slices, which are listed last first
abbrev pub dispatches_of : List Slice → List SInstr
dispatches_of [] = []
dispatches_of (s ∷ ss) = dispatches_of ss ++ (Dispatch s.position s.end ∷ [])

-- the slices of earliest deadline first over the tightened windows, and `End`
abbrev pub edf_schedule : List Job → ℕ → List SInstr
edf_schedule js period = dispatches_of (maximal_slices (edf (tightened js)) period) ++ (End ∷ [])

-- the last slice is kept open
abbrev pub closed_of : List Slice → List SInstr
closed_of [] = []
closed_of (s ∷ ss) = dispatches_of ss

abbrev pub open_of : List Slice → Option (ℕ × ℕ)
open_of [] = None
open_of (s ∷ ss) = Some (s.position, s.end)
