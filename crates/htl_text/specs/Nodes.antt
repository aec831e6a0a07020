-- The tree as plain records. Each has the fields of the node of that name; parameters, communicators and
-- invocations hold no expression and stand as they are.
use Rattle.std.specs.Prelude.{ℕ, Option, List, map}
use Rattle.htl_text.specs.{Expressions.Expr, declared.tree.Id.Id, declared.tree.Num.Num, declared.tree.Tree.Tree, declared.tree.ProgramNode.ProgramNode, declared.tree.CommNode.CommNode, declared.tree.ModuleNode.ModuleNode}
use Rattle.htl_text.specs.{declared.tree.TaskNode.TaskNode, declared.tree.ParamNode.ParamNode, declared.tree.OutNodes.OutNodes, declared.tree.OutNode.OutNode, declared.tree.ModeNode.ModeNode, declared.tree.InvokeNode.InvokeNode}
use Rattle.htl_text.specs.declared.tree.OutNodes.TheVariants as outs
use Rattle.htl_text.specs.declared.tree.SwitchNode.{SwitchNode}

-- an output with its expression
pub record PlainOut : Type 0 where
  pub param : ParamNode
  pub first : ℕ
  pub value : Expr

-- the outputs of a task with code, or of an abstract one
pub data PlainOuts : Type 0 where
  Concrete : List PlainOut → PlainOuts
  Abstract : List ParamNode → PlainOuts

pub record PlainTask : Type 0 where
  pub name : Id
  pub inputs : List ParamNode
  pub outputs : PlainOuts
  pub worst : Num

pub record PlainSwitch : Type 0 where
  pub first : ℕ
  pub cond : Expr
  pub target : Id

pub record PlainMode : Type 0 where
  pub name : Id
  pub period : Num
  pub program : Option Id
  pub ports : List ParamNode
  pub invokes : List InvokeNode
  pub switches : List PlainSwitch

pub record PlainModule : Type 0 where
  pub name : Id
  pub start : Id
  pub tasks : List PlainTask
  pub modes : List PlainMode

pub record PlainProgram : Type 0 where
  pub name : Id
  pub comms : List CommNode
  pub modules : List PlainModule

abbrev pub out_of : OutNode → PlainOut
out_of o = record { param = o.param; first = o.first; value = o.value }

abbrev pub outs_of : OutNodes → PlainOuts
outs_of (outs.Concrete xs) = Concrete (map out_of xs)
outs_of (outs.Abstract xs) = Abstract xs

abbrev pub task_of : TaskNode → PlainTask
task_of t = record { name = t.name; inputs = t.inputs; outputs = outs_of t.outputs; worst = t.worst }

abbrev pub switch_of : SwitchNode → PlainSwitch
switch_of s = record { first = s.first; cond = s.cond; target = s.target }

abbrev pub mode_of : ModeNode → PlainMode
mode_of m = record {
  name = m.name;
  period = m.period;
  program = m.program;
  ports = m.ports;
  invokes = m.invokes;
  switches = map switch_of m.switches;
}

abbrev pub module_of : ModuleNode → PlainModule
module_of m = record { name = m.name; start = m.start; tasks = map task_of m.tasks; modes = map mode_of m.modes }

abbrev pub program_of : ProgramNode → PlainProgram
program_of p = record { name = p.name; comms = p.comms; modules = map module_of p.modules }

-- the programs of a source, in order
abbrev pub tree_of : Tree → List PlainProgram
tree_of t = map program_of t.programs
