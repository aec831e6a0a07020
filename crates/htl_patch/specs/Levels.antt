-- How much the patched tables have of what is limited, by the numbers that are taken over.
use Rattle.std.specs.Prelude.{◌≤◌, ℕ, List, [], ◌∷◌, length}
use Rattle.htl_base.specs.declared.limits.TheConstants.{MAX_MODULES, MAX_MODES, MAX_PORTS, MAX_TASKS, MAX_INVOCATIONS, MAX_SWITCHES, MAX_MODE_INVOCATIONS, MAX_LEVELS}
use Rattle.htl_model.specs.{declared.parts.Mode.Mode, declared.parts.Module.Module, Tables.Tables}
use Rattle.htl_patch.specs.Renumbered.{Numbering}

-- tables of modules and modes alone, which tell the levels
abbrev pub module_mode_tables : List Module → List Mode → Tables
module_mode_tables units modes = record { comms = []; modes = modes; modules = units; ports = []; tasks = []; invs = []; switches = []; functions = [] }

-- each with its limit; no mode has too many invocations
abbrev pub sizes_of : Numbering → ℕ → List (ℕ × ℕ)
sizes_of n levels =
    (length n.modules, MAX_MODULES) ∷ (length n.modes, MAX_MODES) ∷ (length n.ports, MAX_PORTS) ∷ (length n.tasks, MAX_TASKS)
    ∷ (length n.invs, MAX_INVOCATIONS) ∷ (length n.switches, MAX_SWITCHES) ∷ (0, MAX_MODE_INVOCATIONS) ∷ (levels, MAX_LEVELS) ∷ []

-- numbers of two programs are not too many
pub record AreFewNumbers (n : Numbering) : Type 0 where
  pub modules : length n.modules ≤ 16384
  pub modes : length n.modes ≤ 16384
  pub ports : length n.ports ≤ 16384
  pub tasks : length n.tasks ≤ 16384
  pub invs : length n.invs ≤ 16384
  pub switches : length n.switches ≤ 16384
