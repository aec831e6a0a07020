-- What the job lines of a run show of one job of one round.
use Rattle.std.specs.Prelude.{◌≡◌, ◌≤◌, ℕ, ◌+◌, ◌*◌, Bool, true, cond, ◌&&◌, eqb, ltb, leb, List, [], ◌∷◌, get_or, slice_get, Option, Some, None, option_map}
use Rattle.htl_runs.specs.{Common.Event, Common.joined, Common.Tables, Common.mode_period, Common.Job, Common.SInstr, Common.frame_modes, Common.frame_places, Common.frame_at, lines.RunLines.RunLine}
use Rattle.htl_model.specs.Frames.{frame_of, no_place}
use Rattle.htl_walk.specs.Walk.{AllWithin, finish}
use Rattle.htl_refine.specs.{FrameRuns.walk_of, ServedJobs.spent}
use Rattle.htl_runs.specs.lines.RunLines.RunLine.{SliceLine, DoneLine}

-- a line of invocation i about an instant after `start`, and at `end` or before
abbrev pub is_in : ℕ → ℕ → ℕ → ℕ → ℕ → Bool
is_in i start end inv at = eqb inv i && (ltb start at && leb at end)

-- when a d line of the invocation says that its job was done, if that was then
abbrev pub done_time : ℕ → ℕ → ℕ → RunLine → List ℕ
done_time i start end (DoneLine at inv) = cond (is_in i start end inv at) (at ∷ []) []
done_time i start end _ = []

-- the slice of a j line of the invocation, if it ended then
abbrev pub slice_time : ℕ → ℕ → ℕ → RunLine → List (ℕ × ℕ)
slice_time i start end (SliceLine from to inv) = cond (is_in i start end inv to) ((from, to) ∷ []) []
slice_time i start end _ = []

-- The lines show job j of the frame from f, whose invocation's round stands from `start` to `end`, and which finishes so many ticks
-- after the frame's start. Of its invocation they have one d line in the round, about the instant at which the job finishes, which is no
-- later than the end of its window; the j lines of its invocation in the round lie in the window, and have as many ticks as the job takes.
pub record IsToldInTime (lines : List RunLine) (start end f : ℕ) (j : Job) (length : ℕ) (finished : Option ℕ) : Type 0 where
  pub done_at : ℕ
  pub done : joined (done_time j.inv start end) lines ≡ done_at ∷ []
  pub exact : option_map (λ (g : ℕ). f + g) finished ≡ Some done_at
  pub in_time : done_at ≤ f + j.end
  pub within : AllWithin (f + j.release) (f + j.end) (joined (slice_time j.inv start end) lines)
  pub whole : spent (joined (slice_time j.inv start end) lines) ≡ length

-- ---- in a run

-- when the round of the job at position q of the frame from f begins
abbrev pub job_round : Tables → List Event → ℕ → ℕ → ℕ
job_round t es f q = f + (get_or (frame_places t (frame_modes t es f)) q no_place).at

-- how long a round of an invocation's module lasts
abbrev pub inv_period : Tables → ℕ → ℕ
inv_period t i = elim (slice_get t.invs i) [ Some x ↦ mode_period t x.mode | None ↦ 0 ]

-- so they do for each job of each frame whose window ended by `end`, by when the frame's records finish it
abbrev pub AllToldInTime : Tables → List (List SInstr) → List Event → ℕ → List RunLine → Type 0
AllToldInTime t lists es end lines =
    (k q : ℕ) (j : Job) → let f = k * frame_of t in let p = frame_at t lists es f in slice_get p.jobs q ≡ Some j → j.present ≡ true → f + j.end ≤ end
    → let s = job_round t es f q in IsToldInTime lines s (s + inv_period t j.inv) f j (get_or p.lengths q 0) (finish (walk_of p) q)
