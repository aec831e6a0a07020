-- The modules in the order of the tables: a root module, then for each of its modes in order the modules of its
-- refinement with theirs, then the next root module.
use Rattle.std.specs.Prelude.{ℕ, zero, suc, List, [], ◌∷◌, length, slice_get, Option, Some, None}
use Rattle.std.specs.List.{flat_map}
use Rattle.htl_names.specs.{Trees.list_to, Trees.PlainProgram, Trees.PlainModule, Trees.PlainMode, Trees.PlainTask, Trees.PlainSwitch, Trees.ParamNode, Trees.InvokeNode, Trees.Key, Trees.ModeAt, Trees.ModuleAt, Lists.flat_map_at}
use Rattle.htl_names.specs.Programs.{refining_program}

-- ---- what stands at a place, nothing where there is no such place

abbrev pub modules_at : List PlainProgram → ℕ → List PlainModule
modules_at ps p = elim (slice_get ps p) [ Some x ↦ x.modules | None ↦ [] ]

abbrev pub module_at : List PlainProgram → ℕ → ℕ → Option PlainModule
module_at ps p u = slice_get (modules_at ps p) u

abbrev pub tasks_at : List PlainProgram → ℕ → ℕ → List PlainTask
tasks_at ps p u = elim (module_at ps p u) [ Some x ↦ x.tasks | None ↦ [] ]

abbrev pub modes_at : List PlainProgram → ℕ → ℕ → List PlainMode
modes_at ps p u = elim (module_at ps p u) [ Some x ↦ x.modes | None ↦ [] ]

abbrev pub mode_at : List PlainProgram → ModeAt → Option PlainMode
mode_at ps a = slice_get (modes_at ps a.program a.«module») a.mode

abbrev pub ports_at : List PlainProgram → ModeAt → List ParamNode
ports_at ps a = elim (mode_at ps a) [ Some x ↦ x.ports | None ↦ [] ]

abbrev pub invokes_at : List PlainProgram → ModeAt → List InvokeNode
invokes_at ps a = elim (mode_at ps a) [ Some x ↦ x.invokes | None ↦ [] ]

abbrev pub switches_at : List PlainProgram → ModeAt → List PlainSwitch
switches_at ps a = elim (mode_at ps a) [ Some x ↦ x.switches | None ↦ [] ]

-- ---- the order of modules

abbrev pub nth_module : ℕ → Option ModeAt → ℕ → ModuleAt
nth_module program parent u = record { program = program; «module» = u; parent = parent }

abbrev pub mode_in : ModuleAt → ℕ → ModeAt
mode_in s m = record { program = s.program; «module» = s.«module»; mode = m }

-- the modules of program q, which refines a mode
abbrev pub modules_in : List PlainProgram → Option ModeAt → ℕ → List ModuleAt
modules_in ps parent q = list_to (nth_module q parent) (length (modules_at ps q))

-- those of no program where there is none
abbrev pub program_modules : List PlainProgram → Option ModeAt → Option ℕ → List ModuleAt
program_modules ps parent o = elim o [ Some q ↦ modules_in ps parent q | None ↦ [] ]

abbrev pub mode_children : List (Key × ℕ) → List PlainProgram → ℕ → ℕ → ℕ → PlainMode → List ModuleAt
mode_children symbols ps p u m x = program_modules ps (Some (record { program = p; «module» = u; mode = m })) (refining_program symbols x)

-- the modules of the programs that refine the modes of a module
abbrev pub children : List (Key × ℕ) → List PlainProgram → ModuleAt → List ModuleAt
children symbols ps s = flat_map_at (mode_children symbols ps s.program s.«module») 0 (modes_at ps s.program s.«module»)

-- a module, and in order those below it, at most so many levels down
abbrev pub below : ℕ → List (Key × ℕ) → List PlainProgram → ModuleAt → List ModuleAt
below zero symbols ps s = s ∷ []
below (suc n) symbols ps s = s ∷ flat_map (below n symbols ps) (children symbols ps s)

-- the modules of the source: no level is deeper than there are programs
abbrev pub order : List (Key × ℕ) → List PlainProgram → List ModuleAt
order symbols ps = flat_map (below (length ps) symbols ps) (modules_in ps None 0)

-- the modes: by module, then in source order
abbrev pub module_modes : List PlainProgram → ModuleAt → List ModeAt
module_modes ps s = list_to (mode_in s) (length (modes_at ps s.program s.«module»))

abbrev pub mode_order : List PlainProgram → List ModuleAt → List ModeAt
mode_order ps modules = flat_map (module_modes ps) modules
