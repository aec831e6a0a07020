-- The jobs of a path where modules run in these modes at each start.
use Rattle.std.specs.Prelude.{ℕ, ◌≡◌, ◌%◌, cond, eqb, List, [], ◌∷◌, ◌++◌, length, take, map, get_or, slice_get, Option, Some, None}
use Rattle.htl_refine.specs.Common.{flat_map, Tables, KeptApart, AreInRange, Job, SInstr, HaveLengths, AreWithinWorst, Place, entry, root_modules, invs_of}
use Rattle.htl_refine.specs.declared.selection.Selection.{Selection}
use Rattle.htl_model.specs.{Chosen.followed, Chosen.chosen, Frames.path_places, Frames.frame_of, Frames.unit_period, Frames.places_of, Frames.starts, Frames.path_mode}
use Rattle.htl_walk.specs.{Paths.IsPathAccepted, Paths.AreChained, Paths.AreWithin, PathJobs.placed_jobs, PathJobs.path_jobs, PathJobs.legs, PathLaws.RefinesFront, PathLaws.IsInherited}

-- what stands at a position: `modes a` has the modes that run at a
abbrev pub derived_place : Tables → (ℕ → List (Option ℕ)) → Place → Place
derived_place t modes x = record { inv = followed (λ k. chosen t (modes x.at) k) x.inv; at = x.at }

abbrev pub derived_jobs : Tables → (ℕ → List (Option ℕ)) → List Place → List Job
derived_jobs t modes xs = placed_jobs t (map (derived_place t modes) xs)

-- what stands at the positions so far refines the root invocations of the path
abbrev pub PathRefinement : Type 0
PathRefinement =
    (t : Tables) (path n : ℕ) (modes : ℕ → List (Option ℕ)) → AreInRange t → KeptApart t 16 → RefinesFront (derived_jobs t modes (take n (path_places t path))) (path_jobs t path)

-- so lists that are accepted for the root invocations serve what stands for them, in each list that has begun
abbrev pub PathServes : Type 0
PathServes =
    (t : Tables) (path n k : ℕ) (modes : ℕ → List (Option ℕ)) (lengths : List ℕ) (ss : List (List SInstr)) → AreInRange t → KeptApart t 16
    → (let js = derived_jobs t modes (take n (path_places t path)) in HaveLengths js lengths → AreWithinWorst js lengths
    → AreChained 0 (frame_of t) (length (path_jobs t path)) (legs t path) → AreWithin (length js) (take k (legs t path))
    → IsPathAccepted (path_jobs t path) (legs t path) ss → IsInherited js (path_jobs t path) lengths ss (legs t path) k)

-- ---- by the modes at each start

-- the mode of a root module's round that begins at a; none where none begins
abbrev pub begun_mode : Tables → List (Option ℕ) → ℕ → ℕ → Option ℕ
begun_mode t modes a u = cond (eqb (a % unit_period t u) 0) (entry modes u) None

-- the root invocations of the round of a module that begins at a
abbrev pub round_places : Tables → List (Option ℕ) → ℕ → ℕ → List Place
round_places t modes a u = elim (begun_mode t modes a u) [ Some m ↦ places_of a (invs_of t m) | None ↦ [] ]

-- those of the rounds of these modules that begin at a
abbrev pub start_places : Tables → List (Option ℕ) → ℕ → List ℕ → List Place
start_places t modes a us = flat_map (round_places t modes a) us

-- what stands for a root invocation where the modules are in these modes
abbrev pub standing_place : Tables → List (Option ℕ) → Place → Place
standing_place t modes = derived_place t (λ a. modes)

-- what stands at the positions of the rounds that begin at the first starts, by the modes at each of them
abbrev pub begun_places : Tables → List (List (Option ℕ)) → List ℕ → List Place
begun_places t [] as' = []
begun_places t (m ∷ ms) [] = []
begun_places t (m ∷ ms) (a ∷ as') = map (standing_place t m) (start_places t m a (root_modules t)) ++ begun_places t ms as'

-- its jobs
abbrev pub begun_jobs : Tables → List (List (Option ℕ)) → List Job
begun_jobs t sels = placed_jobs t (begun_places t sels (starts t))

-- the modes at the start that is this instant
abbrev pub start_modes : List (List (Option ℕ)) → List ℕ → ℕ → List (Option ℕ)
start_modes [] as' x = []
start_modes (m ∷ ms) [] x = []
start_modes (m ∷ ms) (a ∷ as') x = cond (eqb x a) m (start_modes ms as' x)

-- at each start the root modules whose rounds begin are in the path's modes
abbrev pub IsAlong : Tables → ℕ → List (List (Option ℕ)) → Type 0
IsAlong t path sels =
    (j u : ℕ) (m : List (Option ℕ)) → slice_get sels j ≡ Some m → (i : ℕ) → slice_get (root_modules t) i ≡ Some u → get_or (starts t) j 0 % unit_period t u ≡ 0 → entry m u ≡ Some (path_mode t path j u)

-- the modes of selections
abbrev pub modes_of_all : List Selection → List (List (Option ℕ))
modes_of_all sels = map (λ (s : Selection). s.modes) sels
