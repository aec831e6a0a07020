-- The positions of a frame of a run, with what stands at each.
use Rattle.std.specs.Prelude.{◌≡◌, ℕ, ◌≤◌, ◌<◌, List, map, slice_get, Some}
use Rattle.htl_refine.specs.{Common.Event, Common.Place, Common.KeptApart, Common.known_by, Common.AreInRange, Common.Tables, DerivedPaths.derived_place, FrameRuns.frame_modes, FrameRuns.frame_places}

-- invocation i, in the round that begins at a
abbrev pub place : ℕ → ℕ → Place
place i a = record { inv = Some i; at = a }

-- what stands at the positions of the frame from f
abbrev pub standing_places : Tables → List Event → ℕ → List Place
standing_places t es f = map (derived_place t (frame_modes t es f)) (frame_places t (frame_modes t es f))

-- the places are by their rounds' starts, and nobody has two in one round; the first m are those that have begun by an offset
pub record AreOrdered (places : List Place) (m d : ℕ) : Type 0 where
  pub order : (p q : ℕ) (x y : Place) → p < q → slice_get places p ≡ Some x → slice_get places q ≡ Some y → x.at ≤ y.at
  pub once : (p q i a : ℕ) → slice_get places p ≡ Some (place i a) → slice_get places q ≡ Some (place i a) → p ≡ q
  pub begun : (p : ℕ) (x : Place) → slice_get places p ≡ Some x → x.at ≤ d → p < m
  pub front : (p : ℕ) (x : Place) → slice_get places p ≡ Some x → p < m → x.at ≤ d

-- so are the positions of each frame of a run, and those that have begun by an offset are the first ones
abbrev pub PlacesOrdered : Type 0
PlacesOrdered = (t : Tables) (es : List Event) (f d : ℕ) → AreInRange t → KeptApart t 16 → AreOrdered (standing_places t es f) (known_by d (frame_places t (frame_modes t es f))) d
