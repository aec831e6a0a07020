-- The rules on periods: one in a module, with a frame for those of the root modules that keeps its limits, and divided by those of the
-- communicators.
use Rattle.std.specs.Prelude.{◌≡◌, ◌≢◌, ◌⊎◌, ℕ, ◌%◌, Option, Some, None, option_map, slice_get}
use Rattle.htl_model.specs.{declared.parts.Mode.Mode, declared.parts.Inv.Inv, declared.parts.End.End, Tables.Tables, Tables.mode_period, Tables.comm_period, Ranges.parent_of, Frames.frame_limit, Selections.modes_of}
use Rattle.htl_model.specs.declared.parts.End.TheVariants as E

-- the first mode of a module
abbrev pub first_mode : Tables → ℕ → Option ℕ
first_mode t u = slice_get (modes_of t u) 0

-- the period to which the modes of a module are held: that of the mode that the module refines, or of a root module's first mode
abbrev pub asked_period : Tables → ℕ → Option ℕ
asked_period t u = elim (parent_of t u) [ Some p ↦ Some (mode_period t p) | None ↦ option_map (mode_period t) (first_mode t u) ]

-- 1: the mode's period isn't that of the module
abbrev pub PeriodDiffers : Tables → Mode → ℕ → ℕ → Type 0
PeriodDiffers t x have need = (have ≡ x.period) × (asked_period t x.«module» ≡ Some need) × (have ≢ need)

-- 2: a limit of frames is exceeded, and the mode is the first of the module at which it is: the first root module up to which the
-- periods have too great a multiple, or the last one where there are too many starts, paths or positions
pub record FrameExceeds (t : Tables) (m : ℕ) (x : Mode) (have need : ℕ) : Type 0 where
  pub first : first_mode t x.«module» ≡ Some m
  pub limit : frame_limit t ≡ Some (x.«module», (have, need))

-- 3: the communicator's period doesn't divide the mode's
abbrev pub NotDivided : Tables → ℕ → ℕ → ℕ → ℕ → Type 0
NotDivided t m c have need = (have ≡ comm_period t c) × (need ≡ mode_period t m) × ((have ≡ 0) ⊎ (need % have ≢ 0))

-- 3: so for the communicator of an input or output
abbrev pub EndNotDivided : Tables → Inv → End → ℕ → ℕ → Type 0
EndNotDivided t i (E.Comm c n) have need = NotDivided t i.mode c have need
EndNotDivided t i (E.Port p) have need = ⊥
