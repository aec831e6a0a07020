-- The jobs of the rounds that begin at one start of a frame, behind the positions before them.
use Rattle.std.specs.Prelude.{ℕ, ◌+◌, ◌*◌, List, ◌++◌, drop, map, replicate, Option, None}
use Rattle.htl_refine.specs.{Common.Place, Common.root_modules, Common.Tables, Common.Job, Common.placed_jobs, DerivedPaths.start_places, DerivedPaths.standing_place, FrameRuns.path_in, FrameRuns.choice_at}
use Rattle.htl_model.specs.Frames.{rounds_of, choices}

-- where nobody stands
abbrev pub nowhere : Place
nowhere = record { inv = None; at = 0 }

-- behind n positions, those of the rounds that begin at a, where the modules are in these modes
abbrev pub new_places : Tables → List (Option ℕ) → ℕ → ℕ → List Place
new_places t modes a n = replicate n nowhere ++ map (standing_place t modes) (start_places t modes a (root_modules t))

-- their jobs
abbrev pub new_jobs : Tables → List (Option ℕ) → ℕ → ℕ → List Job
new_jobs t modes a n = drop n (placed_jobs t (new_places t modes a n))

-- the number of the choice that these modes are at a
abbrev pub choice_of : Tables → List (Option ℕ) → ℕ → ℕ
choice_of t modes = choice_at t (λ x. modes)

-- the same, where n is the number of the choice of the modules before these
abbrev pub choice_rest : Tables → List (Option ℕ) → ℕ → ℕ → List ℕ → ℕ
choice_rest t modes a n us = n * choices t (rounds_of t a us) + path_in t (λ x. modes) (rounds_of t a us)
