-- The length of a frame as the least common multiple of the periods of its root modules.
use Rattle.std.specs.Prelude.{◌≡◌, ℕ, List, ◌∷◌}
use Rattle.std.specs.Int.{◌∣◌}
use Rattle.std.specs.List.{AllByRecursion}
use Rattle.htl_model.specs.{Frames.frame_of, Frames.root_periods, Ranges.AreInRange, Tables.Tables}

-- l is the least common multiple of a and b: both divide it, and it divides whatever both divide
abbrev pub IsLcm : ℕ → ℕ → ℕ → Type 0
IsLcm a b l = (a ∣ l) × (b ∣ l) × ((m : ℕ) → a ∣ m → b ∣ m → l ∣ m)

-- l is the least common multiple of a number and of those of a list
pub record IsLcmOf (a : ℕ) (bs : List ℕ) (l : ℕ) : Type 0 where
  pub first : a ∣ l
  pub each : AllByRecursion (λ b. b ∣ l) bs
  pub least : (m : ℕ) → a ∣ m → AllByRecursion (λ b. b ∣ m) bs → l ∣ m

-- The period of each root module divides the length of a frame, and that divides whatever all of them divide.
abbrev pub FramesAreLeast : Type 0
FramesAreLeast = (t : Tables) (p : ℕ) (ps : List ℕ) → AreInRange t → root_periods t ≡ p ∷ ps → IsLcmOf p ps (frame_of t)
