-- The modes of all root modules in a selection.
use Rattle.std.specs.Prelude.{◌≡◌, ℕ, ◌+◌, cond, ltb, List, [], ◌∷◌, slice_get, Option, Some, None}
use Rattle.htl_model.specs.{declared.parts.Mode.Mode, Selected.entry, Selections.is_root, Selections.root_mode, Tables.Tables}

-- the mode of a root module in a selection; none where a module refines a mode, and none where there is no module
abbrev pub root_entry : Tables → ℕ → ℕ → Option ℕ
root_entry t sel u = elim (slice_get t.modules u) as (λ _. Option ℕ) [ Some x ↦ cond (is_root x) (Some (root_mode t sel u)) None | None ↦ None ]

-- the entries are the modes of the root modules in a selection
abbrev pub AreRootModes : Tables → ℕ → List (Option ℕ) → Type 0
AreRootModes t sel modes = (u : ℕ) → entry modes u ≡ root_entry t sel u

-- how many items have a key below a number
abbrev pub below : {X : Type 0} → (X → ℕ) → ℕ → List X → ℕ
below key u [] = 0
below key u (x ∷ xs) = cond (ltb (key x) u) 1 0 + below key u xs

-- how many modes are of modules below a number
abbrev pub modes_below : List Mode → ℕ → ℕ
modes_below modes u = below (λ m. m.«module») u modes
