-- The flat tables, and what their numbers name.
use Rattle.std.specs.Prelude.{Option, ℕ, zero, suc, ◌+◌, ◌*◌, min, max, Bool, false, cond, not, List, [], ◌∷◌, length, slice_get, map, Some, None, ℤ, pos}
use Rattle.htl_model.specs.{declared.parts.Comm.Comm, declared.parts.Mode.Mode, declared.parts.Module.Module, declared.parts.Port.Port, declared.parts.Task.Task, declared.parts.Inv.Inv, declared.parts.Switch.Switch, declared.parts.End.End}
use Rattle.htl_model.specs.declared.parts.End.TheVariants as E
use Rattle.htl_model.specs.{declared.function.Code.Code, declared.function.Function.Function, declared.parts.Parts.Parts, Functions.Term, Functions.term_of, Functions.value, Functions.value_or, Functions.tree}
use Rattle.htl_model.specs.declared.function.Function.TheVariants as F

-- a function: an expression with the number of its first token, or code
pub data Fun : Type 0 where
  Formula : (first : ℕ) (e : Term) → Fun
  Compiled : Code → Fun

-- the flat lists, free of pointers and capacities
pub record Tables : Type 0 where
  pub comms : List Comm
  pub modes : List Mode
  pub modules : List Module
  pub ports : List Port
  pub tasks : List Task
  pub invs : List Inv
  pub switches : List Switch
  pub functions : List Fun

abbrev pub fun_of : Function → Fun
fun_of (F.Expr first e) = Formula first (term_of e)
fun_of (F.Code c) = Compiled c

-- the tables that the parts in memory spell
abbrev pub tables_of : Parts → Tables
tables_of p =
    record {
      comms = p.comms;
      modes = p.modes;
      modules = p.modules;
      ports = p.ports;
      tasks = p.tasks;
      invs = p.invs;
      switches = p.switches;
      functions = map fun_of p.functions;
    }

-- ---- look-ups, with 0 or false for what isn't there

abbrev pub mode_period : Tables → ℕ → ℕ
mode_period t m = elim (slice_get t.modes m) [ Some x ↦ x.period | None ↦ 0 ]

abbrev pub mode_module : Tables → ℕ → ℕ
mode_module t m = elim (slice_get t.modes m) [ Some x ↦ x.module | None ↦ 0 ]

abbrev pub comm_period : Tables → ℕ → ℕ
comm_period t c = elim (slice_get t.comms c) [ Some x ↦ x.period | None ↦ 0 ]

abbrev pub task_is_abstract : Tables → ℕ → Bool
task_is_abstract t k = elim (slice_get t.tasks k) [ Some x ↦ x.is_abstract | None ↦ false ]

abbrev pub task_worst : Tables → ℕ → ℕ
task_worst t k = elim (slice_get t.tasks k) [ Some x ↦ x.worst | None ↦ 0 ]

abbrev pub is_concrete : Tables → Inv → Bool
is_concrete t i = not (task_is_abstract t i.task)

-- ---- windows

-- the offsets at which the ends of an invocation meet communicators
abbrev pub offsets : Tables → List End → List ℕ
offsets t [] = []
offsets t (E.Comm c n ∷ ends) = n * comm_period t c ∷ offsets t ends
offsets t (E.Port p ∷ ends) = offsets t ends

abbrev pub greatest : ℕ → List ℕ → ℕ
greatest x [] = x
greatest x (y ∷ ys) = greatest (max x y) ys

abbrev pub least_or : ℕ → List ℕ → ℕ
least_or d [] = d
least_or d (y ∷ []) = y
least_or d (y ∷ z ∷ ys) = min y (least_or d (z ∷ ys))

abbrev pub release : Tables → Inv → ℕ
release t i = greatest 0 (offsets t i.reads)

abbrev pub window_end : Tables → Inv → ℕ
window_end t i = least_or (mode_period t i.mode) (offsets t i.writes)

-- ---- the order of functions

abbrev pub function_count : Task → ℕ
function_count k = cond k.is_abstract 0 (length k.outputs)

abbrev pub count_at : Option Task → ℕ
count_at (Some k) = function_count k
count_at None = 0

-- how many functions the tasks below place n have
abbrev pub count_before : ℕ → List Task → ℕ
count_before zero ts = 0
count_before (suc n) ts = count_before n ts + count_at (slice_get ts n)

abbrev pub output_function : Tables → ℕ → ℕ → ℕ
output_function t task output = count_before task t.tasks + output

abbrev pub switch_function : Tables → ℕ → ℕ
switch_function t switch = count_before (length t.tasks) t.tasks + switch

-- the value that a function gives
abbrev pub fun : Fun → List ℤ → ℤ
fun (Formula first e) args = value args e
fun (Compiled c) args = value_or args (tree c.instrs)

abbrev pub function_value : Tables → ℕ → List ℤ → ℤ
function_value t f args = elim (slice_get t.functions f) [ Some g ↦ fun g args | None ↦ pos 0 ]
