-- The names that a source declares, in source order.
use Rattle.std.specs.Prelude.{ℕ, suc, ◌+◌, ◌≡◌, ◌<◌, ◌⊎◌, ◌∷◌, ◌++◌, List, [], length, slice_get, Some}
use Rattle.htl_names.specs.Trees.{out_params, PlainProgram, PlainModule, PlainMode, PlainTask, Id, CommNode, ParamNode, InvokeNode, Key, Entry, NameFault}
use Rattle.htl_names.specs.declared.fault.NameFault.TheVariants as fault
use Rattle.htl_names.specs.{Keys.program_key, Keys.comm_key, Keys.module_key, Keys.task_key, Keys.mode_key, Keys.param_key, Keys.port_key, Keys.invoke_key, Lists.flat_map_at, Lists.map_at}

abbrev pub entry : Key → ℕ → Id → Entry
entry key number id = record { key = key; number = number; token = id.token }

-- the inputs of a task and then its outputs
abbrev pub params_of : PlainTask → List ParamNode
params_of t = t.inputs ++ out_params t.outputs

abbrev pub param_entry : ℕ → ℕ → ℕ → ℕ → ParamNode → Entry
param_entry p u k j x = entry (param_key p u k x.name.name) j x.name

abbrev pub task_entries : ℕ → ℕ → ℕ → PlainTask → List Entry
task_entries p u k t = entry (task_key p u t.name.name) k t.name ∷ map_at (param_entry p u k) 0 (params_of t)

abbrev pub port_entry : ℕ → ℕ → ℕ → ℕ → ParamNode → Entry
port_entry p u m j x = entry (port_key p u m x.name.name) j x.name

-- a task is invoked at most once in a mode
abbrev pub invoke_entry : ℕ → ℕ → ℕ → ℕ → InvokeNode → Entry
invoke_entry p u m j x = entry (invoke_key p u m x.task.name) j x.task

abbrev pub mode_entries : ℕ → ℕ → ℕ → PlainMode → List Entry
mode_entries p u m x =
    entry (mode_key p u x.name.name) m x.name ∷ (map_at (port_entry p u m) 0 x.ports ++ map_at (invoke_entry p u m) 0 x.invokes)

abbrev pub module_entries : ℕ → ℕ → PlainModule → List Entry
module_entries p u x =
    entry (module_key x.name.name) u x.name ∷ (flat_map_at (task_entries p u) 0 x.tasks ++ flat_map_at (mode_entries p u) 0 x.modes)

-- communicators are numbered over the whole source
abbrev pub comm_entry : ℕ → CommNode → Entry
comm_entry c x = entry (comm_key x.name.name) c x.name

-- those of program p, whose first communicator has this number
abbrev pub program_entries : ℕ → ℕ → PlainProgram → List Entry
program_entries p first x =
    entry (program_key x.name.name) p x.name ∷ (map_at comm_entry first x.comms ++ flat_map_at (module_entries p) 0 x.modules)

abbrev pub entries_from : ℕ → ℕ → List PlainProgram → List Entry
entries_from p first [] = []
entries_from p first (x ∷ xs) = program_entries p first x ++ entries_from (suc p) (first + length x.comms) xs

abbrev pub entries : List PlainProgram → List Entry
entries ps = entries_from 0 0 ps

-- the name at place k repeats an earlier one of its list
abbrev pub Repeats : List Entry → ℕ → Entry → Type 0
Repeats es k e = (j : ℕ) × (d : Entry) × (j < k) × (slice_get es j ≡ Some d) × (d.key ≡ e.key)

-- no name at a place below k repeats
abbrev pub AreApartTo : ℕ → List Entry → Type 0
AreApartTo k es = (j : ℕ) (d : Entry) → j < k → slice_get es j ≡ Some d → Repeats es j d → ⊥

abbrev pub EntriesAreApart : List Entry → Type 0
EntriesAreApart es = AreApartTo (length es) es

-- the refusal tells of the first name that repeats, or of want of memory
abbrev pub IsRepeat : List Entry → NameFault → Type 0
IsRepeat es f = (f ≡ fault.Memory) ⊎ ((k : ℕ) × (e : Entry) × (slice_get es k ≡ Some e) × Repeats es k e × (f ≡ fault.Twice e.token) × AreApartTo k es)
