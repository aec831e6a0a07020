-- The root selection to which a selection of running modes belongs.
use Rattle.std.specs.Prelude.{ℕ, suc, ◌+◌, ◌*◌, cond, eqb, List, [], ◌∷◌, Option, Some, None}
use Rattle.htl_refine.specs.Common.{Module, Tables, entry}
use Rattle.htl_model.specs.Selections.{is_root, modes_of, choices_from}

-- the place of a number in a list
abbrev pub place_among : ℕ → List ℕ → ℕ
place_among m [] = 0
place_among m (x ∷ xs) = cond (eqb x m) 0 (suc (place_among m xs))

-- the place of a module's mode among its modes
abbrev pub entry_place : Tables → List (Option ℕ) → ℕ → ℕ
entry_place t modes u = elim (entry modes u) [ Some m ↦ place_among m (modes_of t u) | None ↦ 0 ]

-- by mixed radix over the root modules from number k on, the first the most significant place
abbrev pub selection_from : Tables → List (Option ℕ) → ℕ → List Module → ℕ
selection_from t modes k [] = 0
selection_from t modes k (x ∷ xs) = cond (is_root x) (entry_place t modes k * choices_from t (suc k) xs) 0 + selection_from t modes (suc k) xs

abbrev pub selection_of : Tables → List (Option ℕ) → ℕ
selection_of t modes = selection_from t modes 0 t.modules
