-- Bounds by which the numbers of a layout fit the fields of the tables.
use Rattle.std.specs.Prelude.{ℕ, ◌≤◌, All, List, length, Option, Some, None}
use Rattle.htl_base.specs.declared.limits.TheConstants.{MAX_MODULES, MAX_MODES, MAX_PORTS, MAX_TASKS, MAX_INVOCATIONS, MAX_PERIOD}
use Rattle.htl_names.specs.{Trees.comms_of, Trees.PlainProgram, Trees.EndNode, Trees.InvokeNode, Trees.Key, Trees.ModeAt, Trees.ModuleAt, Order.modes_at, Order.tasks_at, Order.invokes_at}
use Rattle.htl_text.specs.declared.tree.EndNode.TheVariants as end
use Rattle.htl_names.specs.Flat.{Layout, meaning, modes_before, tasks_before, ports_before, invokes_before, size_of}

-- the instance of an end; 0 at a port
abbrev pub instance_of : EndNode → ℕ
instance_of (end.Comm comm instance) = size_of instance.x
instance_of (end.Port port) = 0

abbrev pub IsNarrowEnd : EndNode → Type 0
IsNarrowEnd e = instance_of e ≤ MAX_PERIOD

pub record IsNarrowInvoke (i : InvokeNode) : Type 0 where
  pub reads : All IsNarrowEnd i.reads
  pub writes : All IsNarrowEnd i.writes

-- the place of the mode that a module refines; 0 where it refines none
abbrev pub refined_place : Option ModeAt → ℕ
refined_place None = 0
refined_place (Some a) = a.mode

abbrev pub IsNarrowParent : Option ModeAt → Type 0
IsNarrowParent o = refined_place o ≤ MAX_MODES

pub record IsNarrow (l : Layout) (ps : List PlainProgram) : Type 0 where
  pub meanings : (key : Key) → meaning l key ≤ MAX_TASKS
  pub modules : length l.modules ≤ MAX_MODULES
  pub modes : length l.modes ≤ MAX_MODES
  pub modes_before : (k : ℕ) → modes_before l ps k ≤ MAX_MODES
  pub first_tasks : (k : ℕ) → tasks_before l ps k ≤ MAX_TASKS
  pub first_ports : (m : ℕ) → ports_before l ps m ≤ MAX_PORTS
  pub first_invokes : (m : ℕ) → invokes_before l ps m ≤ MAX_INVOCATIONS
  pub parents : All (λ (s : ModuleAt). IsNarrowParent s.parent) l.modules
  pub comm_periods : All (λ c. size_of c.period.x ≤ MAX_PERIOD) (comms_of ps)
  pub mode_periods : (p u : ℕ) → All (λ x. size_of x.period.x ≤ MAX_PERIOD) (modes_at ps p u)
  pub worsts : (p u : ℕ) → All (λ t. size_of t.worst.x ≤ MAX_PERIOD) (tasks_at ps p u)
  pub instances : (a : ModeAt) → All IsNarrowInvoke (invokes_at ps a)
