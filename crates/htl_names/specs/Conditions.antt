-- What is asked of a tree whose names are resolved. Each tree of a source keeps it.
use Rattle.std.specs.Prelude.{◌≤◌, List, All, length, map}
use Rattle.std.specs.{Set.distinct_count, Str.bytes_eq}
use Rattle.htl_base.specs.declared.limits.TheConstants.{MAX_ARGUMENTS, MAX_ENDS, MAX_INSTRUCTIONS, MAX_SOURCE}
use Rattle.htl_names.specs.Trees.{tree_nodes, names_of, out_params, out_values, modules_of, modes_of, tasks_of, invokes_of, switches_of, IsBounded, PlainProgram, PlainTask, PlainSwitch, InvokeNode}

pub record MeetsTaskBounds (t : PlainTask) : Type 0 where
  pub inputs : length t.inputs ≤ MAX_ENDS
  pub outputs : length (out_params t.outputs) ≤ MAX_ENDS
  pub values : All (λ e. tree_nodes e ≤ MAX_INSTRUCTIONS) (out_values t.outputs)

pub record MeetsInvokeBounds (i : InvokeNode) : Type 0 where
  pub reads : length i.reads ≤ MAX_ENDS
  pub writes : length i.writes ≤ MAX_ENDS

pub record MeetsSwitchBounds (s : PlainSwitch) : Type 0 where
  pub cond : tree_nodes s.cond ≤ MAX_INSTRUCTIONS
  pub names : distinct_count bytes_eq (map (λ id. id.name) (names_of s.cond)) ≤ MAX_ARGUMENTS

-- The tree has at most 1,048,576 programs, each list of parameters or ends at most 256 items, each expression at most
-- 512 nodes, and each condition of a switch at most 256 different names.
pub record MeetsBounds (ps : List PlainProgram) : Type 0 where
  pub programs : length ps ≤ MAX_SOURCE
  pub tasks : All MeetsTaskBounds (tasks_of (modules_of ps))
  pub invokes : All MeetsInvokeBounds (invokes_of (modes_of (modules_of ps)))
  pub switches : All MeetsSwitchBounds (switches_of (modes_of (modules_of ps)))

-- a tree that is bounded meets them
abbrev pub SourceTreesMeetBounds : Type 0
SourceTreesMeetBounds = (ps : List PlainProgram) → IsBounded ps → MeetsBounds ps
