-- The tables of the tests of frames: communicators u and w of period 10; a module F with a mode of period 10, which invokes
-- a of worst case 3, and a module G with a mode of period 20, which invokes b. Both read the first instance of u; a writes the
-- second of u, b the third of w.
use Rattle.std.specs.Prelude.{◌≡◌, ◌<◌, ℕ, true, false, List, [], ◌∷◌, None, codes, pos}
use Rattle.htl_base.specs.declared.Ty.TheVariants as ty
use Rattle.htl_model.specs.{declared.parts.Comm.Comm, declared.parts.Mode.Mode, declared.parts.Module.Module, declared.parts.Task.Task, declared.parts.Inv.Inv, FrameRules.KeptApart, Frames.frame_limit, Frames.paths, Tables.Tables}
use Rattle.htl_model.specs.declared.parts.End.TheVariants as E

abbrev pub frame_comm : List ℕ → Comm
frame_comm name = record { name = name; ty = ty.Int; sensor = false; period = 10; init = pos 0 }

abbrev pub frame_mode : List ℕ → ℕ → ℕ → Mode
frame_mode name owner period = record { name = name; «module» = owner; period = period }

abbrev pub frame_module : List ℕ → ℕ → Module
frame_module name start = record { name = name; parent = None; start = start }

abbrev pub frame_task : List ℕ → ℕ → ℕ → Task
frame_task name owner worst = record { name = name; «module» = owner; is_abstract = true; worst = worst; inputs = ty.Int ∷ []; outputs = ty.Int ∷ [] }

abbrev pub frame_inv : ℕ → ℕ → ℕ → Inv
frame_inv mode comm instance = record { mode = mode; task = mode; parent = None; reads = E.Comm 0 0 ∷ []; writes = E.Comm comm instance ∷ [] }

abbrev pub frame_comms : List Comm
frame_comms = frame_comm (codes "u") ∷ frame_comm (codes "w") ∷ []

abbrev pub frame_modes : List Mode
frame_modes = frame_mode (codes "m") 0 10 ∷ frame_mode (codes "m") 1 20 ∷ []

abbrev pub frame_modules : List Module
frame_modules = frame_module (codes "F") 0 ∷ frame_module (codes "G") 1 ∷ []

abbrev pub frame_tasks : ℕ → List Task
frame_tasks worst = frame_task (codes "a") 0 3 ∷ frame_task (codes "b") 1 worst ∷ []

abbrev pub frame_invs : List Inv
frame_invs = frame_inv 0 0 1 ∷ frame_inv 1 1 2 ∷ []

abbrev pub frame_sample_of : List Comm → List Mode → List Module → List Task → List Inv → Tables
frame_sample_of comms modes modules tasks invs =
    record { comms = comms; modes = modes; modules = modules; ports = []; tasks = tasks; invs = invs; switches = []; functions = [] }

abbrev pub frame_sample : ℕ → Tables
frame_sample worst = frame_sample_of frame_comms frame_modes frame_modules (frame_tasks worst) frame_invs

-- the tables keep the form rules and the limits of frames, and have a path
pub record IsFramed (t : Tables) : Type 0 where
  pub limits : frame_limit t ≡ None
  pub formed : KeptApart t 12
  pub path : 0 < paths t
