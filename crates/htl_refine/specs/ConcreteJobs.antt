-- The jobs of a round where the modules are in these modes.
use Rattle.std.specs.Prelude.{◌≡◌, ℕ, List, [], map, slice_get, Option, Some, None}
use Rattle.htl_refine.specs.Common.{flat_map, Module, chosen, entry, Tables, Job}
use Rattle.htl_model.specs.Selections.{root_modules, invs_of, root_mode}
use Rattle.htl_walk.specs.Jobs.{jobs_standing}

-- the invocations in the mode in which a module is
abbrev pub running_invs : Tables → List (Option ℕ) → ℕ → List ℕ
running_invs t modes u = elim (entry modes u) [ Some m ↦ invs_of t m | None ↦ [] ]

-- the root invocations in the modes of the root modules, in the order of modules, then of the source
abbrev pub running_positions : Tables → List (Option ℕ) → List ℕ
running_positions t modes = flat_map (running_invs t modes) (root_modules t)

-- what stands at each position
abbrev pub standing : Tables → List (Option ℕ) → List (Option ℕ)
standing t modes = map (chosen t modes) (running_positions t modes)

-- the jobs of what stands at the positions
abbrev pub concrete_jobs : Tables → List (Option ℕ) → List Job
concrete_jobs t modes = jobs_standing t (standing t modes)

-- the root modules are in the modes of the root selection
abbrev pub IsOfSelection : Tables → ℕ → List (Option ℕ) → Type 0
IsOfSelection t sel modes = (u : ℕ) (x : Module) → slice_get t.modules u ≡ Some x → x.parent ≡ None → entry modes u ≡ Some (root_mode t sel u)
