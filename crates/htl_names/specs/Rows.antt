-- What one walk over a source leaves for the name rules: four lists, each in source order.
use Rattle.std.specs.Prelude.{◌≡◌, ℕ, suc, List, [], ◌∷◌, ◌++◌, cond, map, Some}
use Rattle.std.specs.List.{flat_map}
use Rattle.htl_names.specs.Trees.{names_of, PlainProgram, PlainOut, program_of, module_of, mode_of, task_of, out_of, switch_of, CommNode, ParamNode, EndNode, InvokeNode, Scope, Entry, Use}
use Rattle.htl_text.specs.{declared.tree.ModeNode.ModeNode, declared.tree.ModuleNode.ModuleNode, declared.tree.OutNode.OutNode, declared.tree.ProgramNode.ProgramNode, declared.tree.SwitchNode.SwitchNode, declared.tree.TaskNode.TaskNode}
use Rattle.htl_names.specs.{declared.rows.ParentName.ParentName, Entries.entry, Entries.task_entries, Entries.invoke_entry, Entries.mode_entries, Entries.module_entries, Entries.comm_entry, Entries.entries_from, Entries.entries}
use Rattle.htl_names.specs.{Kinds.Judged, Kinds.is_kind, Kinds.token_of, Kinds.comm_kinds, Kinds.end_kinds, Kinds.invoke_kinds, Kinds.mode_kinds, Kinds.task_kind, Kinds.module_kinds, Kinds.program_kinds, Kinds.kinds, Keys.key_in}
use Rattle.htl_names.specs.{Lists.map_at, Lists.flat_map_at, Parents.ParentUse, Parents.invoke_parent, Parents.mode_parents, Parents.module_parents, Parents.program_parents, Parents.parents}
use Rattle.htl_names.specs.Uses.{use_in, task_uses, end_use, invoke_uses, switch_uses, mode_uses, module_uses, program_uses, uses}

pub record Rows : Type 0 where
  pub entries : List Entry
  pub uses : List Use
  pub wrong : List ℕ
  pub parents : List ParentUse

-- ---- items as the code holds them

abbrev pub parent_use_of : ParentName → ParentUse
parent_use_of n = record { program = n.program; id = n.id }

-- ---- rows of one list, and rows behind rows

-- the tokens of those that are not of their kind
unfoldable pub wrong_of : Judged → List ℕ
wrong_of j = cond (is_kind j) [] (token_of j ∷ [])

abbrev pub wrong_tokens : List Judged → List ℕ
wrong_tokens js = flat_map wrong_of js

abbrev pub rows_by : List Entry → List Use → List ℕ → List ParentUse → Rows
rows_by es us ts ps = record { entries = es; uses = us; wrong = ts; parents = ps }

abbrev pub rows_with : List Entry → List Use → List Judged → List ParentUse → Rows
rows_with es us js ps = rows_by es us (wrong_tokens js) ps

abbrev pub declaring : List Entry → Rows
declaring es = rows_with es [] [] []

abbrev pub using : List Use → Rows
using us = rows_with [] us [] []

abbrev pub judging : List Judged → Rows
judging js = rows_with [] [] js []

abbrev pub refining : List ParentUse → Rows
refining ps = rows_with [] [] [] ps

abbrev pub rows_joined : Rows → Rows → Rows
rows_joined a b = rows_by (a.entries ++ b.entries) (a.uses ++ b.uses) (a.wrong ++ b.wrong) (a.parents ++ b.parents)

-- the rows of a list's items, by the place of the first, are each item's behind those of the items before it
pub record AreInOrder {A : Type 0} (rows : ℕ → List A → Rows) : Type 0 where
  pub none : (k : ℕ) → rows k [] ≡ declaring []
  pub more : (k : ℕ) (x : A) (xs : List A) → rows k (x ∷ xs) ≡ rows_joined (rows k (x ∷ [])) (rows (suc k) xs)

-- ---- what the parts of a source in a list give, the first of them at a place

abbrev pub comm_rows : Scope → ℕ → List CommNode → Rows
comm_rows s c xs = rows_with (map_at comm_entry c xs) [] (flat_map comm_kinds xs) []

abbrev pub param_entry_in : Scope → ℕ → ParamNode → Entry
param_entry_in s j x = entry (key_in s x.name.name) j x.name

abbrev pub param_rows : Scope → ℕ → List ParamNode → Rows
param_rows s j xs = declaring (map_at (param_entry_in s) j xs)

-- outputs of a task that has this number of inputs
abbrev pub output_uses_in : Scope → ℕ → PlainOut → List Use
output_uses_in s inputs o = map (use_in s (Some inputs)) (names_of o.value)

abbrev pub out_rows : Scope → ℕ → ℕ → List OutNode → Rows
out_rows s inputs j xs =
    rows_with (map_at (param_entry_in s) j (map (λ o. o.param) (map out_of xs))) (flat_map (output_uses_in s inputs) (map out_of xs)) [] []

abbrev pub task_rows : Scope → ℕ → List TaskNode → Rows
task_rows s k xs =
    rows_with (flat_map_at (task_entries s.program s.«module») k (map task_of xs)) (flat_map_at (task_uses s.program s.«module») k (map task_of xs)) (map task_kind (map task_of xs)) []

abbrev pub end_rows : Scope → ℕ → List EndNode → Rows
end_rows s k xs = rows_with [] (map (end_use s.program s.«module» s.item) xs) (flat_map end_kinds xs) []

abbrev pub invoke_rows : Scope → ℕ → List InvokeNode → Rows
invoke_rows s j xs =
    rows_with (map_at (invoke_entry s.program s.«module» s.item) j xs) (flat_map (invoke_uses s.program s.«module» s.item) xs) (flat_map invoke_kinds xs) (flat_map (invoke_parent s.program) xs)

abbrev pub switch_rows : Scope → ℕ → List SwitchNode → Rows
switch_rows s j xs = using (flat_map (switch_uses s.program s.«module») (map switch_of xs))

abbrev pub mode_rows : Scope → ℕ → List ModeNode → Rows
mode_rows s m xs =
    rows_with (flat_map_at (mode_entries s.program s.«module») m (map mode_of xs)) (flat_map_at (mode_uses s.program s.«module») m (map mode_of xs)) (flat_map mode_kinds (map mode_of xs))
    (flat_map (mode_parents s.program) (map mode_of xs))

abbrev pub module_rows : Scope → ℕ → List ModuleNode → Rows
module_rows s u xs =
    rows_with (flat_map_at (module_entries s.program) u (map module_of xs)) (flat_map_at (module_uses s.program) u (map module_of xs)) (flat_map module_kinds (map module_of xs))
    (flat_map (module_parents s.program) (map module_of xs))

-- programs from p on, whose first communicator has this number
abbrev pub program_rows : ℕ → ℕ → List ProgramNode → Rows
program_rows p first xs =
    rows_with (entries_from p first (map program_of xs)) (flat_map_at program_uses p (map program_of xs)) (flat_map program_kinds (map program_of xs)) (flat_map_at program_parents p (map program_of xs))

-- ---- the lists of a source

abbrev pub rows : List PlainProgram → Rows
rows ps = rows_with (entries ps) (uses ps) (kinds ps) (parents ps)
