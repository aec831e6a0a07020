-- Which concrete invocations write the same: an instance twice in one mode, or a communicator in two modes that can stand
-- together.
use Rattle.std.specs.Prelude.{◌≡◌, ◌≢◌, ◌<◌, ◌⊎◌, ℕ, true, Option, Some, slice_get}
use Rattle.htl_model.specs.{declared.parts.Inv.Inv, declared.parts.End.End, Tables.Tables, Tables.is_concrete, Tables.mode_module, Ranges.parent_of, PortWriters.OutputBefore}
use Rattle.htl_model.specs.declared.parts.End.TheVariants as E

-- the mode that a mode's module refines
abbrev pub parent_mode : Tables → ℕ → Option ℕ
parent_mode t m = parent_of t (mode_module t m)

-- the path of a mode: itself, with the path of the mode that its module refines
pub data OnPath (t : Tables) : ℕ → ℕ → Type 0 where
  itself : (m : ℕ) → OnPath t m m
  above : (m p b : ℕ) → parent_mode t m ≡ Some p → OnPath t p b → OnPath t m b

-- two modes can stand together: their paths hold no module in two different modes
abbrev pub StandTogether : Tables → ℕ → ℕ → Type 0
StandTogether t a b = (x y : ℕ) → OnPath t a x → OnPath t b y → mode_module t x ≡ mode_module t y → x ≡ y

-- instance o written in mode m and instance n of the same communicator written in mode q are written twice
abbrev pub AreSameWrite : Tables → ℕ → ℕ → ℕ → ℕ → Type 0
AreSameWrite t m o q n = ((m ≡ q) × (o ≡ n)) ⊎ ((m ≢ q) × StandTogether t m q)

-- invocation l is concrete and writes, at an output before output j of invocation k, which is i, what that output writes:
-- instance n of communicator c
abbrev pub WritesBefore : Tables → ℕ → Inv → ℕ → ℕ → ℕ → ℕ → Type 0
WritesBefore t k i j c n l =
    (x : Inv) × (slice_get t.invs l ≡ Some x) × (is_concrete t x ≡ true) × (place o : ℕ) × OutputBefore l place k j
    × (slice_get x.writes place ≡ Some (E.Comm c o)) × AreSameWrite t x.mode o i.mode n

-- output j of the concrete invocation k, which is i, writes what an earlier concrete writer writes; have is the least such
-- writer's invocation, need the communicator
abbrev pub SecondWriter : Tables → ℕ → Inv → ℕ → End → ℕ → ℕ → Type 0
SecondWriter t k i j (E.Comm c n) have need =
    (need ≡ c) × (is_concrete t i ≡ true) × WritesBefore t k i j c n have × ((l : ℕ) → l < have → WritesBefore t k i j c n l → ⊥)
SecondWriter t k i j (E.Port p) have need = ⊥
