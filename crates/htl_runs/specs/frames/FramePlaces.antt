-- Who stands at the positions of a frame so far.
use Rattle.std.specs.Prelude.{◌≡◌, ℕ, ◌+◌, ◌-◌, ◌*◌, ◌/◌, ◌≤◌, ◌<◌, List, take, slice_get, Option, Some}
use Rattle.htl_runs.specs.{Common.Event, Common.Inv, Common.Stay, Common.KeptApart, Common.state, Common.AreInRange, Common.Tables, Common.window_end, Common.frame_modes, Common.frame_places, Common.frame_jobs, values.Values.InvStands}
use Rattle.htl_model.specs.{declared.frame.Place.Place, Frames.frame_of, Frames.known_by}
use Rattle.htl_walk.specs.PathJobs.{placed_jobs}
use Rattle.htl_refine.specs.FramePlaces.{place, standing_places, AreOrdered}
use Rattle.htl_runs.specs.frames.JobsSoFar.{AreJobsSoFar}

-- the positions so far of the frame from `frame`, where at n the modules are as `stays` says
pub record IsFramePlacing (t : Tables) (stays : List (Option Stay)) (frame n : ℕ) (places : List Place) : Type 0 where
  -- whoever stands has a position in its module's round
  pub has : (i : ℕ) (x : Inv) (s : ℕ) → InvStands t stays i x s → (p a : ℕ) × (slice_get places p ≡ Some (place i a)) × (frame + a ≡ s)
  pub known : (p i a : ℕ) → slice_get places p ≡ Some (place i a) → (x : Inv) × (slice_get t.invs i ≡ Some x)
  -- until the window of a position has ended, whoever is at it stands in that round
  pub stands : (p i a : ℕ) (x : Inv) → slice_get places p ≡ Some (place i a) → slice_get t.invs i ≡ Some x → n < frame + a + window_end t x → InvStands t stays i x (frame + a)
  -- of who stands no later round has begun
  pub latest : (p i a s : ℕ) (x : Inv) → slice_get places p ≡ Some (place i a) → InvStands t stays i x s → frame + a ≤ s
  -- by the rounds' starts; nobody has two in one round
  pub order : (p q : ℕ) (x y : Place) → p < q → slice_get places p ≡ Some x → slice_get places q ≡ Some y → x.at ≤ y.at
  pub once : (p q i a : ℕ) → slice_get places p ≡ Some (place i a) → slice_get places q ≡ Some (place i a) → p ≡ q

-- then the jobs at the first positions are those so far
abbrev pub JobsOfPlacing : Type 0
JobsOfPlacing =
    (t : Tables) (stays : List (Option Stay)) (frame n m : ℕ) (all : List Place) → IsFramePlacing t stays frame n (take m all) → AreJobsSoFar t stays frame n (take m (placed_jobs t all))

-- when the frame of an instant began
abbrev pub frame_start : Tables → ℕ → ℕ
frame_start t n = frame_of t * (n / frame_of t)

-- how many positions of the frame from f have begun by n
abbrev pub begun_by : Tables → List Event → ℕ → ℕ → ℕ
begun_by t es f n = known_by (n - f) (frame_places t (frame_modes t es f))

-- at each instant of a frame what stands at the positions so far is who stands
abbrev pub PlacedByModes : Type 0
PlacedByModes =
    (t : Tables) (es : List Event) (n f m : ℕ) → AreInRange t → KeptApart t 16 → f ≡ frame_start t n → f ≤ n → n < f + frame_of t → AreOrdered (standing_places t es f) m (n - f)
    → IsFramePlacing t (state t es n).stays f n (take m (standing_places t es f))

-- at each instant the jobs of the frame are those so far: in every run, from the form rules alone
abbrev pub FrameJobsStand : Type 0
FrameJobsStand =
    (t : Tables) (es : List Event) (n f : ℕ) → AreInRange t → KeptApart t 16 → 0 < frame_of t → f ≡ frame_start t n
    → AreJobsSoFar t (state t es n).stays f n (take (begun_by t es f n) (frame_jobs t (frame_modes t es f)))
