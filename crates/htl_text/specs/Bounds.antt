-- How large a tree is, and that its literals are such as a source can write. A tree that is spelled by at most
-- 1,048,576 tokens of a text, of which at most 512 stand in a row without `;`, `{` and `}`, is bounded.
use Rattle.std.specs.Prelude.{ℕ, ◌+◌, ◌≡◌, ◌≤◌, ◌<◌, ◌^◌, ℤ, pos, List, [], ◌∷◌, ◌++◌, length, map}
use Rattle.std.specs.List.{All, flat_map, sum_by}
use Rattle.htl_text.specs.{Expressions.Expr, Expressions.Number, Expressions.Variable, Expressions.Prefix, Expressions.Infix, Expressions.Choice, declared.tree.Id.Id, declared.tree.ParamNode.ParamNode, declared.tree.ConstNode.ConstNode}
use Rattle.htl_text.specs.{Nodes.PlainOut, Nodes.PlainOuts, Nodes.Concrete, Nodes.Abstract, Nodes.PlainTask, Nodes.PlainSwitch, Nodes.PlainMode, Nodes.PlainModule, Nodes.PlainProgram, declared.tree.CommNode.CommNode}
use Rattle.htl_text.specs.declared.tree.ConstNode.TheVariants as const
use Rattle.htl_text.specs.{declared.tree.EndNode.EndNode, declared.tree.InvokeNode.InvokeNode}
use Rattle.htl_text.specs.declared.tree.EndNode.TheVariants as end

-- Expressions.

-- how many literals, names and operators an expression has; `if` is one operator over three operands
abbrev pub tree_nodes : Expr → ℕ
tree_nodes (Prefix k op e) = tree_nodes e + 1
tree_nodes (Infix k op l r) = tree_nodes l + tree_nodes r + 1
tree_nodes (Choice k c a b) = tree_nodes c + tree_nodes a + tree_nodes b + 1
tree_nodes _ = 1

-- the names of an expression in order, each as often as it stands there
abbrev pub names_of : Expr → List Id
names_of (Variable id) = id ∷ []
names_of (Prefix k op e) = names_of e
names_of (Infix k op l r) = names_of l ++ names_of r
names_of (Choice k c a b) = names_of c ++ (names_of a ++ names_of b)
names_of _ = []

-- a number that a source can write: from 0 to 9,223,372,036,854,775,807
abbrev pub IsLiteral : ℤ → Type 0
IsLiteral x = (n : ℕ) × (x ≡ pos n) × (n < 2 ^ 63)

-- the numbers of an expression are such
abbrev pub HasLiterals : Expr → Type 0
HasLiterals (Number k x) = IsLiteral x
HasLiterals (Prefix k op e) = HasLiterals e
HasLiterals (Infix k op l r) = HasLiterals l × HasLiterals r
HasLiterals (Choice k c a b) = HasLiterals c × HasLiterals a × HasLiterals b
HasLiterals _ = Unit {0}

pub record IsBoundedExpr (e : Expr) : Type 0 where
  pub few_nodes : tree_nodes e ≤ 512
  pub literals : HasLiterals e

-- The parts of a tree, from the inside out.

-- the number behind a `-` counts, not its opposite
abbrev pub IsBoundedConst : ConstNode → Type 0
IsBoundedConst (const.Int k minus x) = IsLiteral x
IsBoundedConst (const.Bool k x) = Unit {0}

pub record IsBoundedComm (c : CommNode) : Type 0 where
  pub period : IsLiteral c.period.x
  pub init : IsBoundedConst c.init

-- the types and names of a task's outputs
abbrev pub out_params : PlainOuts → List ParamNode
out_params (Concrete os) = map (λ (o : PlainOut). o.param) os
out_params (Abstract os) = os

-- the expressions of a task's outputs
abbrev pub out_values : PlainOuts → List Expr
out_values (Concrete os) = map (λ (o : PlainOut). o.value) os
out_values (Abstract os) = []

pub record IsBoundedTask (t : PlainTask) : Type 0 where
  pub few_inputs : length t.inputs ≤ 256
  pub few_outputs : length (out_params t.outputs) ≤ 256
  pub values : All IsBoundedExpr (out_values t.outputs)
  pub worst : IsLiteral t.worst.x

abbrev pub IsBoundedEnd : EndNode → Type 0
IsBoundedEnd (end.Comm id instance) = IsLiteral instance.x
IsBoundedEnd (end.Port id) = Unit {0}

pub record IsBoundedInvoke (i : InvokeNode) : Type 0 where
  pub few_reads : length i.reads ≤ 256
  pub few_writes : length i.writes ≤ 256
  pub reads : All IsBoundedEnd i.reads
  pub writes : All IsBoundedEnd i.writes

pub record IsBoundedSwitch (s : PlainSwitch) : Type 0 where
  pub cond : IsBoundedExpr s.cond
  pub few_names : length (names_of s.cond) ≤ 256

pub record IsBoundedMode (m : PlainMode) : Type 0 where
  pub period : IsLiteral m.period.x
  pub few_ports : length m.ports ≤ 1048576
  pub few_invokes : length m.invokes ≤ 1048576
  pub few_switches : length m.switches ≤ 1048576
  pub invokes : All IsBoundedInvoke m.invokes
  pub switches : All IsBoundedSwitch m.switches

pub record IsBoundedModule (m : PlainModule) : Type 0 where
  pub few_tasks : length m.tasks ≤ 1048576
  pub few_modes : length m.modes ≤ 1048576
  pub tasks : All IsBoundedTask m.tasks
  pub modes : All IsBoundedMode m.modes

pub record IsBoundedProgram (p : PlainProgram) : Type 0 where
  pub few_comms : length p.comms ≤ 1048576
  pub few_modules : length p.modules ≤ 1048576
  pub comms : All IsBoundedComm p.comms
  pub modules : All IsBoundedModule p.modules

-- All items of a kind, over all programs, modules, tasks, modes or invocations in order.

abbrev pub comms_of : List PlainProgram → List CommNode
comms_of ps = flat_map (λ (p : PlainProgram). p.comms) ps

abbrev pub modules_of : List PlainProgram → List PlainModule
modules_of ps = flat_map (λ (p : PlainProgram). p.modules) ps

abbrev pub tasks_of : List PlainModule → List PlainTask
tasks_of ms = flat_map (λ (m : PlainModule). m.tasks) ms

abbrev pub modes_of : List PlainModule → List PlainMode
modes_of ms = flat_map (λ (m : PlainModule). m.modes) ms

abbrev pub inputs_of : List PlainTask → List ParamNode
inputs_of ts = flat_map (λ (t : PlainTask). t.inputs) ts

abbrev pub outputs_of : List PlainTask → List ParamNode
outputs_of ts = flat_map (λ (t : PlainTask). out_params t.outputs) ts

abbrev pub values_of : List PlainTask → List Expr
values_of ts = flat_map (λ (t : PlainTask). out_values t.outputs) ts

abbrev pub ports_of : List PlainMode → List ParamNode
ports_of ms = flat_map (λ (m : PlainMode). m.ports) ms

abbrev pub invokes_of : List PlainMode → List InvokeNode
invokes_of ms = flat_map (λ (m : PlainMode). m.invokes) ms

abbrev pub switches_of : List PlainMode → List PlainSwitch
switches_of ms = flat_map (λ (m : PlainMode). m.switches) ms

abbrev pub reads_of : List InvokeNode → List EndNode
reads_of is = flat_map (λ (i : InvokeNode). i.reads) is

abbrev pub writes_of : List InvokeNode → List EndNode
writes_of is = flat_map (λ (i : InvokeNode). i.writes) is

-- How many programs, communicators, modules, tasks, inputs, outputs, modes, ports, invocations, reads, writes,
-- switches and nodes of expressions there are together. Each has a token of its own.

abbrev pub task_size : PlainTask → ℕ
task_size t = length t.inputs + length (out_params t.outputs) + sum_by tree_nodes (out_values t.outputs) + 1

abbrev pub invoke_size : InvokeNode → ℕ
invoke_size i = length i.reads + length i.writes + 1

abbrev pub switch_size : PlainSwitch → ℕ
switch_size s = tree_nodes s.cond + 1

abbrev pub mode_size : PlainMode → ℕ
mode_size m = length m.ports + sum_by invoke_size m.invokes + sum_by switch_size m.switches + 1

abbrev pub module_size : PlainModule → ℕ
module_size m = sum_by task_size m.tasks + sum_by mode_size m.modes + 1

abbrev pub program_size : PlainProgram → ℕ
program_size p = length p.comms + sum_by module_size p.modules + 1

abbrev pub tree_size : List PlainProgram → ℕ
tree_size tree = sum_by program_size tree

-- how many items of each kind there are in the whole tree
pub record HasFewItems (tree : List PlainProgram) : Type 0 where
  pub comms : length (comms_of tree) ≤ 1048576
  pub modules : length (modules_of tree) ≤ 1048576
  pub tasks : length (tasks_of (modules_of tree)) ≤ 1048576
  pub modes : length (modes_of (modules_of tree)) ≤ 1048576
  pub inputs : length (inputs_of (tasks_of (modules_of tree))) ≤ 1048576
  pub outputs : length (outputs_of (tasks_of (modules_of tree))) ≤ 1048576
  pub value_nodes : sum_by tree_nodes (values_of (tasks_of (modules_of tree))) ≤ 1048576
  pub ports : length (ports_of (modes_of (modules_of tree))) ≤ 1048576
  pub invokes : length (invokes_of (modes_of (modules_of tree))) ≤ 1048576
  pub reads : length (reads_of (invokes_of (modes_of (modules_of tree)))) ≤ 1048576
  pub writes : length (writes_of (invokes_of (modes_of (modules_of tree)))) ≤ 1048576
  pub switches : length (switches_of (modes_of (modules_of tree))) ≤ 1048576
  pub cond_nodes : sum_by (λ (s : PlainSwitch). tree_nodes s.cond) (switches_of (modes_of (modules_of tree))) ≤ 1048576

-- The tree has a program and its parts are bounded, each by itself and all together.
pub record IsBounded (tree : List PlainProgram) : Type 0 where
  pub some : 1 ≤ length tree
  pub few_programs : length tree ≤ 1048576
  pub programs : All IsBoundedProgram tree
  pub few : HasFewItems tree
  pub size : tree_size tree ≤ 1048576
