-- Selections of running modes: of each module the mode in which it is, or none.
use Rattle.std.specs.Prelude.{◌≡◌, ℕ, suc, Bool, true, false, not, ◌&&◌, eqb, List, [], ◌∷◌, length, get_or, slice_get, Option, Some, None}
use Rattle.htl_model.specs.{declared.parts.Module.Module, declared.parts.Mode.Mode, Tables.Tables, Tables.mode_module}

-- the mode in which a module is; none where it is inactive
abbrev pub entry : List (Option ℕ) → ℕ → Option ℕ
entry modes u = get_or modes u None

-- the mode's module is in it
abbrev pub Runs : Tables → List (Option ℕ) → ℕ → Type 0
Runs t modes m = entry modes (mode_module t m) ≡ Some m

abbrev pub IsModeOf : Tables → ℕ → ℕ → Type 0
IsModeOf t u m = (x : Mode) × (slice_get t.modes m ≡ Some x) × (x.«module» ≡ u)

-- a root module is active; another is exactly where the mode that it refines runs
abbrev pub IsActive : Tables → List (Option ℕ) → Option ℕ → Type 0
IsActive t modes None = Unit {0}
IsActive t modes (Some p) = Runs t modes p

-- an active module is in a mode of its own
abbrev pub IsEntry : Tables → List (Option ℕ) → ℕ → Option ℕ → Option ℕ → Type 0
IsEntry t modes u parent (Some m) = IsModeOf t u m × IsActive t modes parent
IsEntry t modes u parent None = IsActive t modes parent → ⊥

-- one entry for each module, and each is right
pub record IsSelection (t : Tables) (modes : List (Option ℕ)) : Type 0 where
  pub same : length modes ≡ length t.modules
  pub each : (u : ℕ) (x : Module) → slice_get t.modules u ≡ Some x → IsEntry t modes u x.parent (entry modes u)

-- ---- the tests

abbrev pub is_at : Option ℕ → ℕ → Bool
is_at (Some x) n = eqb x n
is_at None n = false

abbrev pub is_running : Tables → List (Option ℕ) → ℕ → Bool
is_running t modes m = is_at (entry modes (mode_module t m)) m

abbrev pub is_mode_of : Tables → ℕ → ℕ → Bool
is_mode_of t u m = elim (slice_get t.modes m) [ Some x ↦ eqb x.«module» u | None ↦ false ]

abbrev pub is_active : Tables → List (Option ℕ) → Option ℕ → Bool
is_active t modes None = true
is_active t modes (Some p) = is_running t modes p

abbrev pub is_entry : Tables → List (Option ℕ) → ℕ → Option ℕ → Option ℕ → Bool
is_entry t modes u parent (Some m) = is_mode_of t u m && is_active t modes parent
is_entry t modes u parent None = not (is_active t modes parent)

-- the entries of the modules from number u on are right
abbrev pub are_entries : Tables → List (Option ℕ) → ℕ → List Module → Bool
are_entries t modes u [] = true
are_entries t modes u (x ∷ xs) = is_entry t modes u x.parent (entry modes u) && are_entries t modes (suc u) xs

abbrev pub is_selection : Tables → List (Option ℕ) → Bool
is_selection t modes = eqb (length modes) (length t.modules) && are_entries t modes 0 t.modules
