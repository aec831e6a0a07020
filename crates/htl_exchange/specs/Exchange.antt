-- What a run of the patched program shows as one of the old program does.
use Rattle.std.specs.Prelude.{◌≡◌, ◌<◌, ℕ, List, length, slice_get, Some, option_map}
use Rattle.htl_load.specs.Alike.{AreAlike}
use Rattle.htl_model.specs.{declared.event.Event.Event, declared.state.Stay.Stay, Meaning.module_stay, Meaning.val, Selections.root_modules, Tables.Tables}
use Rattle.htl_patch.specs.{Combined.Replacement, Patched.new_numbers, Patched.order, Patched.patched, Renumbered.place_among}
use Rattle.htl_refine.specs.FrameRuns.{frame_modes, path_of}
use Rattle.htl_walk.specs.PathJobs.{path_jobs}
use Rattle.htl_exchange.specs.{Reached.IsUnreached, Reached.module_mode, Reached.comm_value, Texts.mode_text, Texts.value_text}

-- the number of a module in the patched program
abbrev pub new_module_number : Replacement → ℕ → ℕ
new_module_number g x = place_among x (order g)

-- a round, with the number of its mode in the patched program
abbrev pub renumbered_stay : Replacement → Stay → Stay
renumbered_stay g y = record { mode = place_among y.mode (new_numbers g).modes; start = y.start }

-- At an instant the patched program shows what the old one does of all that neither refinement reaches: communicators have the same
-- values, modules are in the same modes since the same instants, or both inactive, and the lines of both are the same, letter by letter.
pub record ShowsTheSame (old : Tables) (g : Replacement) (es : List Event) (now : ℕ) : Type 0 where
  pub values : (c : ℕ) → IsUnreached g (comm_value c) → val (patched g) es c now ≡ val old es c now
  pub stays : (x : ℕ) → x < length old.modules → IsUnreached g (module_mode x)
      → module_stay (patched g) es (new_module_number g x) now ≡ option_map (renumbered_stay g) (module_stay old es x now)
  pub value_texts : (c : ℕ) → IsUnreached g (comm_value c) → value_text (patched g) es now c ≡ value_text old es now c
  pub mode_texts : (x : ℕ) → x < length old.modules → IsUnreached g (module_mode x)
      → mode_text (patched g) es now (new_module_number g x) ≡ mode_text old es now x

-- neither refinement reaches the mode of a root module
abbrev pub AreRootsUnreached : Tables → Replacement → Type 0
AreRootsUnreached old g = (k x : ℕ) → slice_get (root_modules old) k ≡ Some x → IsUnreached g (module_mode x)

-- The frame from `start` takes the path that it took: position by position it has the same jobs of root modules, with the same windows and
-- worst cases, apart from the numbers of their invocations.
pub record TakesTheSamePath (old : Tables) (g : Replacement) (es : List Event) (start : ℕ) : Type 0 where
  pub path : path_of (patched g) (frame_modes (patched g) es start) ≡ path_of old (frame_modes old es start)
  pub jobs : AreAlike (path_jobs old (path_of old (frame_modes old es start))) (path_jobs (patched g) (path_of (patched g) (frame_modes (patched g) es start)))
