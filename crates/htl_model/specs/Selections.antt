-- Root selections and their positions.
use Rattle.std.specs.Prelude.{ℕ, suc, ◌+◌, ◌*◌, ◌/◌, ◌%◌, Bool, true, false, cond, eqb, List, [], ◌∷◌, length, get_or, drop, Option, Some, None}
use Rattle.std.specs.List.{flat_map}
use Rattle.htl_model.specs.{declared.parts.Module.Module, declared.parts.Mode.Mode, declared.parts.Inv.Inv, Lists.places_from, Tables.Tables, Tables.mode_period}

abbrev pub is_root : Module → Bool
is_root x = elim x.parent [ Some p ↦ false | None ↦ true ]

-- the root modules, by number
abbrev pub root_modules : Tables → List ℕ
root_modules t = places_from is_root 0 t.modules

abbrev pub mode_of_module : ℕ → Mode → Bool
mode_of_module u x = eqb x.«module» u

abbrev pub inv_of_mode : ℕ → Inv → Bool
inv_of_mode m i = eqb i.mode m

-- the modes of a module, by number
abbrev pub modes_of : Tables → ℕ → List ℕ
modes_of t u = places_from (mode_of_module u) 0 t.modes

-- the invocations of a mode, by number
abbrev pub invs_of : Tables → ℕ → List ℕ
invs_of t m = places_from (inv_of_mode m) 0 t.invs

-- how many choices of modes the root modules from number k on have
abbrev pub choices_from : Tables → ℕ → List Module → ℕ
choices_from t k [] = 1
choices_from t k (x ∷ xs) = cond (is_root x) (length (modes_of t k)) 1 * choices_from t (suc k) xs

-- the number of root selections: one mode for each root module; none without modules
abbrev pub selection_count : Tables → ℕ
selection_count t = elim (root_modules t) [ [] ↦ 0 | k ∷ ks ↦ choices_from t 0 t.modules ]

-- the mode of root module u in a selection: the first root module is the most significant place
abbrev pub root_mode : Tables → ℕ → ℕ → ℕ
root_mode t sel u = get_or (modes_of t u) (sel / choices_from t (u + 1) (drop (u + 1) t.modules) % length (modes_of t u)) 0

-- the positions of a selection: the root invocations in its modes, in module order and then source order
abbrev pub positions : Tables → ℕ → List ℕ
positions t sel = flat_map (λ u. invs_of t (root_mode t sel u)) (root_modules t)

-- the period of the first root module's first mode
abbrev pub root_period : Tables → Option ℕ
root_period t =
    elim (root_modules t) [ [] ↦ None | u ∷ us ↦ elim (modes_of t u) [ [] ↦ None | m ∷ ms ↦ Some (mode_period t m) ] ]

-- the length of a round where the root modules have one period, in ticks: the period of the first root module's first mode; 0 without
-- modules
abbrev pub round_length : Tables → ℕ
round_length t = elim (root_period t) [ Some p ↦ p | None ↦ 0 ]
