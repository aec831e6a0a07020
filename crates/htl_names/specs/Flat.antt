-- The flat tables of a source whose names keep the rules.
use Rattle.std.specs.Prelude.{ℕ, ℤ, pos, negsuc, Bool, true, false, ◌+◌, ◌&&◌, eqb, cond, List, [], ◌∷◌, ◌++◌, length, map, take, slice_get, Option, Some, None}
use Rattle.std.specs.{Int.int_wrapping_neg, Int.w64, List.flat_map}
use Rattle.htl_names.specs.Trees.{Ty, Tables, Fun, Formula, names_of, out_params, PlainProgram, PlainModule, PlainMode, PlainTask, PlainOut, PlainOuts, PlainSwitch, Concrete, Abstract, Id, CommNode, ConstNode, ParamNode, EndNode, InvokeNode, Key, ModeAt, ModuleAt}
use Rattle.htl_model.specs.{declared.parts.Comm.Comm, declared.parts.Mode.Mode, declared.parts.Module.Module, declared.parts.Port.Port, declared.parts.Task.Task, declared.parts.Inv.Inv, declared.parts.Switch.Switch, declared.parts.End.End}
use Rattle.htl_model.specs.declared.parts.End.TheVariants as E
use Rattle.htl_model.specs.Functions.{Term, Number as TermNumber, Truth, Arg, Unary, Binary, Choose}
use Rattle.htl_text.specs.Expressions.{Expr, Number, Flag, Variable, Prefix, Infix, Choice}
use Rattle.htl_text.specs.declared.tree.ConstNode.TheVariants as const
use Rattle.htl_text.specs.declared.tree.EndNode.TheVariants as end
use Rattle.htl_names.specs.{declared.functions.Arguments.Arguments, declared.functions.Arguments.TheVariants.Inputs, declared.functions.Arguments.TheVariants.Reads, Entries.entries, Lists.flat_map_at, Lists.place_in, Lists.distinct}
use Rattle.htl_names.specs.Keys.{look_up, pair_of, comm_key, task_key, mode_key, param_key, port_key, invoke_key}
use Rattle.htl_names.specs.Order.{order, mode_order, modes_at, module_at, tasks_at, ports_at, invokes_at, switches_at}

-- the meanings of names, and the modules and modes by their numbers in the tables
pub record Layout : Type 0 where
  pub symbols : List (Key × ℕ)
  pub modules : List ModuleAt
  pub modes : List ModeAt

abbrev pub symbols_of : List PlainProgram → List (Key × ℕ)
symbols_of ps = map pair_of (entries ps)

abbrev pub layout_by : List (Key × ℕ) → List ModuleAt → List PlainProgram → Layout
layout_by symbols modules ps = record { symbols = symbols; modules = modules; modes = mode_order ps modules }

abbrev pub layout : List PlainProgram → Layout
layout ps = layout_by (symbols_of ps) (order (symbols_of ps) ps) ps

-- the place of the item that a name means in its list
abbrev pub meaning : Layout → Key → ℕ
meaning l key = elim (look_up key l.symbols) [ Some n ↦ n | None ↦ 0 ]

-- ---- numbers

abbrev pub is_module : ℕ → ℕ → ModuleAt → Bool
is_module p u s = eqb s.program p && eqb s.«module» u

-- the number of module u of program p
abbrev pub module_number : Layout → ℕ → ℕ → ℕ
module_number l p u = place_in (is_module p u) l.modules

-- how many modes, and tasks, the modules below number k have
abbrev pub modes_before : Layout → List PlainProgram → ℕ → ℕ
modes_before l ps k = length (flat_map (λ s. modes_at ps s.program s.«module») (take k l.modules))

abbrev pub tasks_before : Layout → List PlainProgram → ℕ → ℕ
tasks_before l ps k = length (flat_map (λ s. tasks_at ps s.program s.«module») (take k l.modules))

-- how many ports, and invocations, the modes below number m have
abbrev pub ports_before : Layout → List PlainProgram → ℕ → ℕ
ports_before l ps m = length (flat_map (ports_at ps) (take m l.modes))

abbrev pub invokes_before : Layout → List PlainProgram → ℕ → ℕ
invokes_before l ps m = length (flat_map (invokes_at ps) (take m l.modes))

abbrev pub mode_number : Layout → List PlainProgram → ModeAt → ℕ
mode_number l ps a = modes_before l ps (module_number l a.program a.«module») + a.mode

-- ---- the lists

-- the number that a literal writes; 0 for one below 0, which no source has
abbrev pub size_of : ℤ → ℕ
size_of (pos n) = n
size_of (negsuc n) = 0

abbrev pub value_of : ConstNode → ℤ
value_of (const.Int token minus x) = cond minus (int_wrapping_neg w64 x) x
value_of (const.Bool token x) = cond x (pos 1) (pos 0)

abbrev pub comm_item : CommNode → Comm
comm_item c = record { name = c.name.name; ty = c.ty; sensor = c.sensor; period = size_of c.period.x; init = value_of c.init }

abbrev pub comm_items : List PlainProgram → List Comm
comm_items ps = map comm_item (flat_map (λ p. p.comms) ps)

abbrev pub mode_item : ℕ → PlainMode → Mode
mode_item k x = record { name = x.name.name; «module» = k; period = size_of x.period.x }

abbrev pub module_mode_items : List PlainProgram → ℕ → ModuleAt → List Mode
module_mode_items ps k s = map (mode_item k) (modes_at ps s.program s.«module»)

abbrev pub mode_items : Layout → List PlainProgram → List Mode
mode_items l ps = flat_map_at (module_mode_items ps) 0 l.modules

abbrev pub module_item : Layout → List PlainProgram → ℕ → ModuleAt → PlainModule → Module
module_item l ps k s x =
    record {
      name = x.name.name;
      parent = elim s.parent [ Some a ↦ Some (mode_number l ps a) | None ↦ None ];
      start = modes_before l ps k + meaning l (mode_key s.program s.«module» x.start.name);
    }

abbrev pub module_items_at : Layout → List PlainProgram → ℕ → ModuleAt → List Module
module_items_at l ps k s = elim (module_at ps s.program s.«module») [ Some x ↦ module_item l ps k s x ∷ [] | None ↦ [] ]

abbrev pub module_items : Layout → List PlainProgram → List Module
module_items l ps = flat_map_at (module_items_at l ps) 0 l.modules

abbrev pub port_item : ℕ → ParamNode → Port
port_item m x = record { name = x.name.name; mode = m; ty = x.ty }

abbrev pub mode_port_items : List PlainProgram → ℕ → ModeAt → List Port
mode_port_items ps m a = map (port_item m) (ports_at ps a)

abbrev pub port_items : Layout → List PlainProgram → List Port
port_items l ps = flat_map_at (mode_port_items ps) 0 l.modes

abbrev pub types_of : List ParamNode → List Ty
types_of xs = map (λ x. x.ty) xs

abbrev pub is_abstract : PlainOuts → Bool
is_abstract (Concrete xs) = false
is_abstract (Abstract xs) = true

abbrev pub task_item : ℕ → PlainTask → Task
task_item k t =
    record {
      name = t.name.name;
      «module» = k;
      is_abstract = is_abstract t.outputs;
      worst = size_of t.worst.x;
      inputs = types_of t.inputs;
      outputs = types_of (out_params t.outputs);
    }

abbrev pub module_task_items : List PlainProgram → ℕ → ModuleAt → List Task
module_task_items ps k s = map (task_item k) (tasks_at ps s.program s.«module»)

abbrev pub task_items : Layout → List PlainProgram → List Task
task_items l ps = flat_map_at (module_task_items ps) 0 l.modules

-- an end of an invocation in mode a, whose number is m
abbrev pub end_item : Layout → List PlainProgram → ℕ → ModeAt → EndNode → End
end_item l ps m a (end.Comm comm instance) = E.Comm (meaning l (comm_key comm.name)) (size_of instance.x)
end_item l ps m a (end.Port port) = E.Port (ports_before l ps m + meaning l (port_key a.program a.«module» a.mode port.name))

-- the mode that the program of module u of program p refines
abbrev pub refined_mode : Layout → ℕ → ℕ → Option ModeAt
refined_mode l p u = elim (slice_get l.modules (module_number l p u)) [ Some s ↦ s.parent | None ↦ None ]

-- the number of the first invocation of the mode that a program refines; 0 where it refines none
abbrev pub first_parent : Layout → List PlainProgram → Option ModeAt → ℕ
first_parent l ps None = 0
first_parent l ps (Some b) = invokes_before l ps (mode_number l ps b)

-- the number of the invocation that a name after `parent` means, in the refined mode
abbrev pub parent_number : Layout → List PlainProgram → Option ModeAt → Id → Option ℕ
parent_number l ps None id = None
parent_number l ps (Some b) id = Some (first_parent l ps (Some b) + meaning l (invoke_key b.program b.«module» b.mode id.name))

abbrev pub invoke_item : Layout → List PlainProgram → ℕ → ModeAt → InvokeNode → Inv
invoke_item l ps m a i =
    record {
      mode = m;
      task = tasks_before l ps (module_number l a.program a.«module») + meaning l (task_key a.program a.«module» i.task.name);
      parent = elim i.parent [ Some id ↦ parent_number l ps (refined_mode l a.program a.«module») id | None ↦ None ];
      reads = map (end_item l ps m a) i.reads;
      writes = map (end_item l ps m a) i.writes;
    }

abbrev pub mode_invoke_items : Layout → List PlainProgram → ℕ → ModeAt → List Inv
mode_invoke_items l ps m a = map (invoke_item l ps m a) (invokes_at ps a)

abbrev pub invoke_items : Layout → List PlainProgram → List Inv
invoke_items l ps = flat_map_at (mode_invoke_items l ps) 0 l.modes

-- the communicators of a condition, each once, in the order of their first occurrence
abbrev pub comms_in : Layout → Expr → List ℕ
comms_in l e = distinct (map (λ id. meaning l (comm_key id.name)) (names_of e))

abbrev pub switch_item : Layout → List PlainProgram → ℕ → ModeAt → PlainSwitch → Switch
switch_item l ps m a s =
    record {
      mode = m;
      target = modes_before l ps (module_number l a.program a.«module») + meaning l (mode_key a.program a.«module» s.target.name);
      reads = comms_in l s.cond;
    }

abbrev pub mode_switch_items : Layout → List PlainProgram → ℕ → ModeAt → List Switch
mode_switch_items l ps m a = map (switch_item l ps m a) (switches_at ps a)

abbrev pub switch_items : Layout → List PlainProgram → List Switch
switch_items l ps = flat_map_at (mode_switch_items l ps) 0 l.modes

-- ---- functions

-- an expression with places of arguments for names
abbrev pub term_by : (Id → ℕ) → Expr → Term
term_by place (Number t x) = TermNumber t x
term_by place (Flag t x) = Truth t x
term_by place (Variable id) = Arg id.token (place id)
term_by place (Prefix t op e) = Unary t op (term_by place e)
term_by place (Infix t op l r) = Binary t op (term_by place l) (term_by place r)
term_by place (Choice t c a b) = Choose t (term_by place c) (term_by place a) (term_by place b)

-- in the function of an output a name is an input of task k of module u of program p
abbrev pub input_place : Layout → ℕ → ℕ → ℕ → Id → ℕ
input_place l p u k id = meaning l (param_key p u k id.name)

abbrev pub flat_output_function : Layout → ℕ → ℕ → ℕ → PlainOut → Fun
flat_output_function l p u k o = Formula o.first (term_by (input_place l p u k) o.value)

abbrev pub outs_functions : Layout → ℕ → ℕ → ℕ → PlainOuts → List Fun
outs_functions l p u k (Concrete xs) = map (flat_output_function l p u k) xs
outs_functions l p u k (Abstract xs) = []

abbrev pub task_functions : Layout → ℕ → ℕ → ℕ → PlainTask → List Fun
task_functions l p u k t = outs_functions l p u k t.outputs

abbrev pub module_functions : Layout → List PlainProgram → ModuleAt → List Fun
module_functions l ps s = flat_map_at (task_functions l s.program s.«module») 0 (tasks_at ps s.program s.«module»)

-- in the function of a switch a name is a place among the communicators that it reads
abbrev pub read_place : Layout → List ℕ → Id → ℕ
read_place l reads id = place_in (eqb (meaning l (comm_key id.name))) reads

-- what a name of an expression stands for
abbrev pub argument_place : Layout → Arguments → Id → ℕ
argument_place l (Inputs s k) = input_place l s.program s.«module» k
argument_place l (Reads reads) = read_place l reads.now

abbrev pub flat_switch_function : Layout → PlainSwitch → Fun
flat_switch_function l s = Formula s.first (term_by (read_place l (comms_in l s.cond)) s.cond)

abbrev pub mode_functions : Layout → List PlainProgram → ModeAt → List Fun
mode_functions l ps a = map (flat_switch_function l) (switches_at ps a)

-- one for each output of each concrete task, in the order of tasks, then one for each switch
abbrev pub function_items : Layout → List PlainProgram → List Fun
function_items l ps = flat_map (module_functions l ps) l.modules ++ flat_map (mode_functions l ps) l.modes

-- ---- the tables

abbrev pub tables_by : Layout → List PlainProgram → Tables
tables_by l ps =
    record {
      comms = comm_items ps;
      modes = mode_items l ps;
      modules = module_items l ps;
      ports = port_items l ps;
      tasks = task_items l ps;
      invs = invoke_items l ps;
      switches = switch_items l ps;
      functions = function_items l ps;
    }

abbrev pub tables_of_tree : List PlainProgram → Tables
tables_of_tree ps = tables_by (layout ps) ps
