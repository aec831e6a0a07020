-- Frames of two runs that agree so far.
use Rattle.std.specs.Prelude.{◌≡◌, ℕ, ◌+◌, ◌≤◌, ◌<◌, List, get_or, slice_get, take, Some}
use Rattle.htl_refine.specs.{Common.Event, Common.starts, Common.known_by, Common.AreInRange, Common.Tables, Common.Job, Common.SInstr, FrameRuns.frame_modes, FrameRuns.frame_places, FrameRuns.Frame, FrameRuns.frame_at, FrameRuns.walks_of}
use Rattle.htl_walk.specs.{Paths.AreInForm, Paths.AgreeOn, Paths.AgreeAt, Paths.AreWithin, Walk.first_point}
use Rattle.htl_refine.specs.Records.{took}

-- frames that agree on the first n positions, and in k lists that know these alone, have the same records of those lists
abbrev pub FrontsAlike : Type 0
FrontsAlike =
    (f g : Frame) (k n : ℕ) → AgreeOn n f.jobs g.jobs → AgreeAt n (first_point f.jobs f.lengths) (first_point g.jobs g.lengths) → AreInForm f.lists f.legs → AreWithin n (take k f.legs)
    → take k f.lists ≡ take k g.lists → take k f.legs ≡ take k g.legs → take k (walks_of f) ≡ take k (walks_of g)

-- two runs whose modes agree in the frame from f up to an offset, by which k of its lists have begun
pub record AreAlike (t : Tables) (es fs : List Event) (f d k : ℕ) : Type 0 where
  pub modes : (a : ℕ) → a ≤ d → frame_modes t es f a ≡ frame_modes t fs f a
  pub lists : (j : ℕ) → j < k → get_or (starts t) j 0 ≤ d

-- how many positions have begun by the offset
abbrev pub begun_by_offset : Tables → List Event → ℕ → ℕ → ℕ
begun_by_offset t es f d = known_by d (frame_places t (frame_modes t es f))

-- the same jobs at the first m positions, and the same first k lists with their legs
pub record AreSameSoFar (p q : Frame) (k m : ℕ) : Type 0 where
  pub jobs : take m p.jobs ≡ take m q.jobs
  pub lists : take k p.lists ≡ take k q.lists
  pub legs : take k p.legs ≡ take k q.legs

-- their frames agree in the positions and lists that have begun
abbrev pub FramesAgree : Type 0
FramesAgree =
    (t : Tables) (lists : List (List SInstr)) (es fs : List Event) (f d k : ℕ) → AreInRange t → AreAlike t es fs f d k
    → AreSameSoFar (frame_at t lists es f) (frame_at t lists fs f) k (begun_by_offset t es f d)

-- and where those jobs take the same, in the records of those lists
abbrev pub WalksAgree : Type 0
WalksAgree =
    (t : Tables) (lists : List (List SInstr)) (es fs : List Event) (f d k : ℕ) → AreInRange t → AreAlike t es fs f d k
    → (let p = frame_at t lists es f in AreInForm p.lists p.legs
    → ((q : ℕ) (j : Job) → q < begun_by_offset t es f d → slice_get p.jobs q ≡ Some j → took t es j.inv (f + j.release) ≡ took t fs j.inv (f + j.release))
    → take k (walks_of p) ≡ take k (walks_of (frame_at t lists fs f)))
