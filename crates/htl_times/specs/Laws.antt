-- The laws of response times.
use Rattle.std.specs.Prelude.{◌≡◌, ℕ, ◌+◌, ◌≤◌, ◌<◌, true, List, [], ◌∷◌, length, slice_get, get_or, Option, Some, None}
use Rattle.std.specs.List.{All}
use Rattle.htl_model.specs.{declared.event.Event.Event, declared.parts.Inv.Inv, Frames.frame_of, Frames.paths, Chosen.StandsFor, Tables.Tables, Tables.is_concrete, Tables.release, Tables.window_end}
use Rattle.htl_model.specs.declared.event.Event.TheVariants as V
use Rattle.htl_walk.specs.{declared.job.Job.Job, declared.schedule.SInstr.SInstr, Paths.Leg, Paths.walk_path, Paths.end_to_end, Paths.AreChained, Paths.IsPathAccepted, Walk.worst_cases, Walk.DoneBy}
use Rattle.htl_walk.specs.Refinement.{Refines, HasWork, HaveLengths, AreWithinWorst}
use Rattle.htl_refine.specs.{FramePlaces.place, FrameRuns.frame_modes, FrameRuns.frame_places, FrameRuns.frame_at, FrameRuns.path_of, FrameRuns.walk_of, ServedFrames.IsFeasibleRun, ServedJobs.Finishes}
use Rattle.htl_times.specs.{declared.greatest.Greatest.Greatest, Response.worst_walk, Response.IsLatest, Busy.busy}
use Rattle.htl_refine.specs.Records.{inv_worst, AreTookWithin}

-- lists that are accepted for a path: jobs that refine the path's finish no later than in its worst-case walk
abbrev pub PathFinishesNoLater : Type 0
PathFinishesNoLater =
    (js ks : List Job) (lengths : List ℕ) (ss : List (List SInstr)) (gs : List Leg) (period p f : ℕ) (j : Job) → All HasWork ks → Refines js ks → HaveLengths js lengths → AreWithinWorst js lengths
    → AreChained 0 period (length ks) gs → IsPathAccepted ks gs ss → slice_get js p ≡ Some j → j.present ≡ true
    → DoneBy (end_to_end (walk_path ks (worst_cases ks) ss gs)) p f → DoneBy (end_to_end (walk_path js lengths ss gs)) p f

-- the job j at position q of the frame from f of a run, in the round of root invocation i that begins at `at`: its invocation stands
-- for i in the modes that run then; it is done by the latest finish l, and no record says it later
pub record IsNoLater (t : Tables) (lists : List (List SInstr)) (es : List Event) (f q i at : ℕ) (j : Job) (l : Greatest) : Type 0 where
  pub stands : StandsFor t (frame_modes t es f at) i j.inv
  pub done : DoneBy (walk_of (frame_at t lists es f)) q (at + l.ticks)
  pub none_later : (k g : ℕ) → Finishes (walk_of (frame_at t lists es f)) q k g → g ≤ at + l.ticks

abbrev pub FinishesNoLater : Type 0
FinishesNoLater =
    (t : Tables) (lists : List (List SInstr)) (es : List Event) (f q i at : ℕ) (j : Job) (l : Greatest) → IsFeasibleRun t lists es
    → slice_get (frame_places t (frame_modes t es f)) q ≡ Some (place i at) → slice_get (frame_at t lists es f).jobs q ≡ Some j → j.present ≡ true
    → IsLatest t lists i l → IsNoLater t lists es f q i at j l

-- so is every job of every run, by its root invocation's row
abbrev pub AreNoLater : Tables → List (List SInstr) → List (Option Greatest) → Type 0
AreNoLater t lists rows =
    (es : List Event) (f q i at : ℕ) (j : Job) (l : Greatest) → AreTookWithin t es → slice_get (frame_places t (frame_modes t es f)) q ≡ Some (place i at)
    → slice_get (frame_at t lists es f).jobs q ≡ Some j → j.present ≡ true → get_or rows i None ≡ Some l → IsNoLater t lists es f q i at j l

-- each `took` is of the whole worst case
abbrev pub IsTookWorst : Tables → Event → Type 0
IsTookWorst t (V.Took i n) = n ≡ inv_worst t i
IsTookWorst t (V.At n) = Unit {0}
IsTookWorst t (V.Sense c x) = Unit {0}
IsTookWorst t (V.End n) = Unit {0}

abbrev pub AreTookWorst : Tables → List Event → Type 0
AreTookWorst t [] = Unit {0}
AreTookWorst t (e ∷ es) = IsTookWorst t e × AreTookWorst t es

-- no task is abstract that is invoked, so that nothing is refined
abbrev pub AreConcrete : Tables → Type 0
AreConcrete t = (k : ℕ) (x : Inv) → slice_get t.invs k ≡ Some x → is_concrete t x ≡ true

-- without refinement, a run in which each job takes its worst case leaves in each frame the records of its path's worst-case walk:
-- there each latest finish is reached
abbrev pub WorstIsReached : Type 0
WorstIsReached =
    (t : Tables) (lists : List (List SInstr)) (es : List Event) (f : ℕ) → IsFeasibleRun t lists es → AreConcrete t → AreTookWorst t es
    → walk_of (frame_at t lists es f) ≡ worst_walk t lists (path_of t (frame_modes t es f))

-- where all paths accept their lists, a latest finish lies in the window: behind the release, and by the window's end, so that
-- the response time is what is before it, and the margin what is behind
pub record IsInWindow (t : Tables) (x : Inv) (l : Greatest) : Type 0 where
  pub released : release t x < l.ticks
  pub in_time : l.ticks ≤ window_end t x

abbrev pub LatestInWindow : Type 0
LatestInWindow = (t : Tables) (lists : List (List SInstr)) (es : List Event) (i : ℕ) (x : Inv) (l : Greatest) → IsFeasibleRun t lists es → slice_get t.invs i ≡ Some x → IsLatest t lists i l → IsInWindow t x l

-- and no path asks for more ticks than its frame has: its utilisation is at most 1
abbrev pub UtilisationAtMostOne : Type 0
UtilisationAtMostOne = (t : Tables) (lists : List (List SInstr)) (es : List Event) (path : ℕ) → IsFeasibleRun t lists es → path < paths t → busy t path ≤ frame_of t
