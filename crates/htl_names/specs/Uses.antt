-- The names that a source uses, in source order, but for those after `parent`; and those that stand for nothing.
use Rattle.std.specs.Prelude.{ℕ, ◌≤◌, MatchOption, ◌∷◌, ◌++◌, List, [], map, length, Option, Some, None, cond, leb}
use Rattle.std.specs.List.{flat_map}
use Rattle.htl_names.specs.Trees.{names_of, PlainProgram, PlainModule, PlainMode, PlainTask, PlainOut, PlainOuts, PlainSwitch, Concrete, Abstract, Id, EndNode, InvokeNode, Key, Use, Scope}
use Rattle.htl_names.specs.{Keys.look_up, Keys.program_key, Keys.comm_key, Keys.task_key, Keys.mode_key, Keys.param_key, Keys.port_key, Keys.key_in, Lists.flat_map_at}
use Rattle.htl_text.specs.declared.tree.EndNode.TheVariants as end

-- any item of the list will do
abbrev pub usage : Key → Id → Use
usage key id = record { key = key; below = None; token = id.token }

-- in an output's expression: one of the task's inputs, which come before its outputs
abbrev pub input_use : ℕ → ℕ → ℕ → ℕ → Id → Use
input_use p u k inputs id = record { key = param_key p u k id.name; below = Some inputs; token = id.token }

abbrev pub output_uses : ℕ → ℕ → ℕ → ℕ → PlainOut → List Use
output_uses p u k inputs o = map (input_use p u k inputs) (names_of o.value)

abbrev pub outputs_uses : ℕ → ℕ → ℕ → ℕ → PlainOuts → List Use
outputs_uses p u k inputs (Concrete xs) = flat_map (output_uses p u k inputs) xs
outputs_uses p u k inputs (Abstract xs) = []

abbrev pub task_uses : ℕ → ℕ → ℕ → PlainTask → List Use
task_uses p u k t = outputs_uses p u k (length t.inputs) t.outputs

abbrev pub comm_use : Id → Use
comm_use id = usage (comm_key id.name) id

abbrev pub end_use : ℕ → ℕ → ℕ → EndNode → Use
end_use p u m (end.Comm comm instance) = comm_use comm
end_use p u m (end.Port port) = usage (port_key p u m port.name) port

abbrev pub invoke_uses : ℕ → ℕ → ℕ → InvokeNode → List Use
invoke_uses p u m i = usage (task_key p u i.task.name) i.task ∷ (map (end_use p u m) i.reads ++ map (end_use p u m) i.writes)

abbrev pub switch_uses : ℕ → ℕ → PlainSwitch → List Use
switch_uses p u s = map comm_use (names_of s.cond) ++ usage (mode_key p u s.target.name) s.target ∷ []

abbrev pub program_use : Option Id → List Use
program_use None = []
program_use (Some id) = usage (program_key id.name) id ∷ []

abbrev pub mode_uses : ℕ → ℕ → ℕ → PlainMode → List Use
mode_uses p u m x = program_use x.program ++ (flat_map (invoke_uses p u m) x.invokes ++ flat_map (switch_uses p u) x.switches)

abbrev pub module_uses : ℕ → ℕ → PlainModule → List Use
module_uses p u x =
    usage (mode_key p u x.start.name) x.start ∷ (flat_map_at (task_uses p u) 0 x.tasks ++ flat_map_at (mode_uses p u) 0 x.modes)

abbrev pub program_uses : ℕ → PlainProgram → List Use
program_uses p x = flat_map_at (module_uses p) 0 x.modules

abbrev pub uses : List PlainProgram → List Use
uses ps = flat_map_at program_uses 0 ps

-- the name stands for nothing: its list has no such item, or none at a place that is allowed
abbrev pub IsUnknown : List (Key × ℕ) → Use → Type 0
IsUnknown symbols u = MatchOption (look_up u.key symbols) (Unit {0}) (λ n. MatchOption u.below ⊥ (λ below. below ≤ n))

-- ---- names that stand for nothing, as a test

-- the token, where a name has no place, or none below a bound
abbrev pub unknown_by : Option ℕ → Option ℕ → ℕ → Option ℕ
unknown_by None below token = Some token
unknown_by (Some n) None token = None
unknown_by (Some n) (Some below) token = cond (leb below n) (Some token) None

-- the token of a use whose name stands for nothing
abbrev pub unknown_token : List (Key × ℕ) → Use → Option ℕ
unknown_token symbols u = unknown_by (look_up u.key symbols) u.below u.token

-- the use of a name in a list
abbrev pub use_in : Scope → Option ℕ → Id → Use
use_in s below id = record { key = key_in s id.name; below = below; token = id.token }
