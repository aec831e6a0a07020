-- The positions of a path, read from where the modes of a module and the invocations of a mode begin.
use Rattle.std.specs.Prelude.{◌≡◌, ℕ, ◌+◌, ◌≤◌, List, length, take, map, get_or}
use Rattle.htl_model.specs.{declared.frame.Place.Place, declared.frame.Round.Round, declared.parts.Inv.Inv, Frames.paths, Frames.places_of, Frames.rounds, Lists.list_to, RootModes.below, Selections.modes_of, Tables.Tables}
use Rattle.htl_times.specs.{declared.path_places.RoundModes.RoundModes, declared.path_places.Survey.Survey}

-- a round with the modes of its module, which stand together from the first on
abbrev pub round_modes : Tables → Round → RoundModes
round_modes t r = record { at = r.at; first = get_or (modes_of t r.unit) 0 0; count = length (modes_of t r.unit) }

-- how many invocations are of modes below each one, up to mode n
abbrev pub AreBegins : Tables → List ℕ → ℕ → Type 0
AreBegins t begins n = (m : ℕ) → m ≤ n → get_or begins m 0 ≡ below (λ (i : Inv). i.mode) m t.invs

-- the rounds of the frame, and where the invocations of each mode begin
pub record IsSurvey (t : Tables) (s : Survey) : Type 0 where
  pub each : take (length (rounds t)) s.rounds ≡ map (round_modes t) (rounds t)
  pub count : s.round_count ≡ length (rounds t)
  pub ways : s.paths ≡ paths t
  pub begins : AreBegins t s.begins (length t.modes)

-- the positions of a round that begins at a, with so many invocations from the first on
abbrev pub run_places : ℕ → ℕ → ℕ → List Place
run_places first count a = places_of a (list_to (λ j. first + j) count)
