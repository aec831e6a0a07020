-- How many items of each kind a tree has, counted up to 2 ^ 64 - 1 in one pass.
use Rattle.std.specs.Prelude.{ℕ, ◌≡◌, ◌+◌, ◌*◌, ◌-◌, ◌^◌, min, max, List, length, fold}
use Rattle.htl_names.specs.{Trees.comms_of, Trees.modules_of, Trees.modes_of, Trees.ports_of, Trees.tasks_of, Trees.invokes_of, Trees.switches_of, Trees.PlainProgram, Trees.PlainModule, Trees.PlainMode, Limits.most_invokes}
use Rattle.htl_names.specs.{declared.limits.ModeTally.ModeTally, declared.limits.ModuleTally.ModuleTally, declared.limits.Tally.Tally}

-- up to the greatest count
abbrev pub capped : ℕ → ℕ
capped n = min n (2 ^ 64 - 1)

-- no items
abbrev pub no_modes : ModeTally
no_modes = record { ports = 0; invokes = 0; switches = 0; most_invokes = 0 }

abbrev pub no_tally : Tally
no_tally = record { comms = 0; modules = 0; of_modules = record { modes = 0; tasks = 0; of_modes = no_modes } }

abbrev pub with_mode : ModeTally → PlainMode → ModeTally
with_mode t x =
    record {
      ports = capped (t.ports + length x.ports);
      invokes = capped (t.invokes + length x.invokes);
      switches = capped (t.switches + length x.switches);
      most_invokes = max t.most_invokes (length x.invokes);
    }

abbrev pub with_module : ModuleTally → PlainModule → ModuleTally
with_module t x =
    record {
      modes = capped (t.modes + length x.modes);
      tasks = capped (t.tasks + length x.tasks);
      of_modes = fold with_mode t.of_modes x.modes;
    }

abbrev pub with_program : Tally → PlainProgram → Tally
with_program t x =
    record {
      comms = capped (t.comms + length x.comms);
      modules = capped (t.modules + length x.modules);
      of_modules = fold with_module t.of_modules x.modules;
    }

-- so many choices of modes, and one of this module
abbrev pub chosen : ℕ → PlainModule → ℕ
chosen n x = capped (n * length x.modes)

abbrev pub selected : List PlainModule → ℕ
selected xs = fold chosen (min (length xs) 1) xs

-- so many positions, and the most of this module
abbrev pub placed : ℕ → PlainModule → ℕ
placed n x = capped (n + (fold with_mode no_modes x.modes).most_invokes)

-- each count is that of the tree, up to the greatest
pub record IsTally (ps : List PlainProgram) (t : Tally) : Type 0 where
  pub comms : capped t.comms ≡ capped (length (comms_of ps))
  pub modules : capped t.modules ≡ capped (length (modules_of ps))
  pub modes : capped t.of_modules.modes ≡ capped (length (modes_of (modules_of ps)))
  pub ports : capped t.of_modules.of_modes.ports ≡ capped (length (ports_of (modes_of (modules_of ps))))
  pub tasks : capped t.of_modules.tasks ≡ capped (length (tasks_of (modules_of ps)))
  pub invokes : capped t.of_modules.of_modes.invokes ≡ capped (length (invokes_of (modes_of (modules_of ps))))
  pub switches : capped t.of_modules.of_modes.switches ≡ capped (length (switches_of (modes_of (modules_of ps))))
  pub most_invokes : capped t.of_modules.of_modes.most_invokes ≡ capped (most_invokes (modes_of (modules_of ps)))
