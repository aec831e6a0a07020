-- The records of a run over frames: those that the lists of its frames leave at an instant.
use Rattle.std.specs.Prelude.{ℕ, suc, ◌+◌, ◌*◌, ◌/◌, Bool, eqb, ltb, List, [], ◌∷◌, ◌++◌, map, Option, Some, None}
use Rattle.htl_refine.specs.{Common.filter, Common.Event, Common.Tables, Common.SInstr, Common.Leg, Common.Left, FrameRuns.frame_modes, FrameRuns.path_of, FrameRuns.frame_at, FrameRuns.walks_of, Records.rounds_before, Records.shifted}
use Rattle.htl_model.specs.{Frames.hyper, Frames.node, Lists.joined, Lists.numbered, Lists.up_to}

-- ---- the lists as they run

pub record RunningList : Type 0 where
  -- the instant at which it begins
  pub from : ℕ
  pub node : ℕ
  pub code : List SInstr
  -- its records, by offsets from the frame's start
  pub walk : List Left

-- the lists from number j on of the frame from f
abbrev pub lists_from : (ℕ → ℕ) → ℕ → ℕ → List (List SInstr) → List Leg → List (List Left) → List RunningList
lists_from number f j [] gs ws = []
lists_from number f j (s ∷ ss) [] ws = []
lists_from number f j (s ∷ ss) (g ∷ gs) [] = []
lists_from number f j (s ∷ ss) (g ∷ gs) (w ∷ ws) = record { from = f + g.from; node = number j; code = s; walk = w } ∷ lists_from number f (suc j) ss gs ws

abbrev pub lists_at : Tables → List (List SInstr) → List Event → ℕ → List RunningList
lists_at t lists es f = let p = frame_at t lists es f in lists_from (node t (path_of t (frame_modes t es f))) f 0 p.lists p.legs (walks_of p)

-- ---- the records of an instant

-- those of a list of the frame from f, each with the place of its instruction
abbrev pub left_in : ℕ → ℕ → RunningList → List (ℕ × Left)
left_in now f r = filter (λ (l : ℕ × Left). eqb l.1.at now) (numbered 0 (map (shifted f) r.walk))

-- of the lists that began before it, and of the list that begins there
abbrev pub begun_before : ℕ → RunningList → Bool
begun_before now r = ltb r.from now

abbrev pub begins_at : ℕ → RunningList → Bool
begins_at now r = eqb r.from now

abbrev pub in_frame : Tables → List (List SInstr) → List Event → (RunningList → Bool) → ℕ → ℕ → List (ℕ × Left)
in_frame t lists es which now f = joined (left_in now f) (filter which (lists_at t lists es f))

-- frames begin at 0, at the hyperperiod, at twice the hyperperiod and so on; without modules there are none
abbrev pub old_records_by : Tables → List (List SInstr) → List Event → ℕ → Option ℕ → List (ℕ × Left)
old_records_by t lists es now None = []
old_records_by t lists es now (Some h) = up_to (λ k. in_frame t lists es (begun_before now) now (k * h)) (rounds_before h now)

abbrev pub new_records_by : Tables → List (List SInstr) → List Event → ℕ → Option ℕ → List (ℕ × Left)
new_records_by t lists es now None = []
new_records_by t lists es now (Some h) = in_frame t lists es (begins_at now) now (h * (now / h))

abbrev pub old_records : Tables → List (List SInstr) → List Event → ℕ → List (ℕ × Left)
old_records t lists es now = old_records_by t lists es now (hyper t)

abbrev pub new_records : Tables → List (List SInstr) → List Event → ℕ → List (ℕ × Left)
new_records t lists es now = new_records_by t lists es now (hyper t)

-- the records at an instant
abbrev pub records : Tables → List (List SInstr) → List Event → ℕ → List (ℕ × Left)
records t lists es now = old_records t lists es now ++ new_records t lists es now
