-- The ranges of the numbers in tables.
use Rattle.std.specs.Prelude.{ℕ, zero, suc, ℤ, pos, Bool, true, false, ◌&&◌, not, eqb, ◌+◌, ◌≤◌, ◌<◌, ◌≡◌, ◌⊎◌, List, [], ◌∷◌, length, map, All, count_by, slice_get, Option, None, Some, IfSome}
use Rattle.std.specs.{List.list_any, List.Sorted.IsNonDecreasing, Str.bytes_eq}
use Rattle.htl_base.specs.declared.limits.TheConstants.{MAX_COMMUNICATORS, MAX_MODULES, MAX_MODES, MAX_PORTS, MAX_TASKS, MAX_INVOCATIONS, MAX_SWITCHES, MAX_MODE_INVOCATIONS, MAX_PERIOD, MAX_ENDS, MAX_ARGUMENTS, MAX_INSTRUCTIONS}
use Rattle.htl_base.specs.declared.Ty.{Ty}
use Rattle.htl_base.specs.declared.Ty.TheVariants as ty
use Rattle.htl_model.specs.{declared.parts.Comm.Comm, declared.parts.Mode.Mode, declared.parts.Module.Module, declared.parts.Port.Port, declared.parts.Task.Task, declared.parts.Inv.Inv, declared.parts.Switch.Switch, declared.parts.End.End}
use Rattle.htl_model.specs.declared.parts.End.TheVariants as E
use Rattle.htl_model.specs.Tables.{Tables, Fun, Formula, Compiled, mode_module, count_before}

-- no name comes again later
abbrev pub are_different : List (List ℕ) → Bool
are_different [] = true
are_different (n ∷ ns) = not (list_any (bytes_eq n) ns) && are_different ns

-- the same owner and the same name
abbrev pub same_owned : ℕ × List ℕ → ℕ × List ℕ → Bool
same_owned a b = eqb a.0 b.0 && bytes_eq a.1 b.1

-- no name of an owner comes again later
abbrev pub are_different_owned : List (ℕ × List ℕ) → Bool
are_different_owned [] = true
are_different_owned (n ∷ ns) = not (list_any (same_owned n) ns) && are_different_owned ns

-- no pair of numbers comes again later
abbrev pub same_pair : ℕ × ℕ → ℕ × ℕ → Bool
same_pair a b = eqb a.0 b.0 && eqb a.1 b.1

abbrev pub are_different_pairs : List (ℕ × ℕ) → Bool
are_different_pairs [] = true
are_different_pairs (n ∷ ns) = not (list_any (same_pair n) ns) && are_different_pairs ns

-- no number comes again later
abbrev pub are_different_numbers : List ℕ → Bool
are_different_numbers [] = true
are_different_numbers (n ∷ ns) = not (list_any (eqb n) ns) && are_different_numbers ns

-- a value of type bool is 0 or 1
abbrev pub FitsType : Ty → ℤ → Type 0
FitsType ty.Int x = Unit {0}
FitsType ty.Bool x = (x ≡ pos 0) ⊎ (x ≡ pos 1)

-- a period or a worst case
pub record IsSpan (n : ℕ) : Type 0 where
  pub some : 1 ≤ n
  pub most : n ≤ MAX_PERIOD

pub record IsCommInRange (c : Comm) : Type 0 where
  pub period : IsSpan c.period
  pub init : FitsType c.ty c.init

pub record IsModeInRange (t : Tables) (m : Mode) : Type 0 where
  pub owner : m.«module» < length t.modules
  pub period : IsSpan m.period

-- a mode of the tables whose module passes a test
abbrev pub IsModeThat : Tables → (ℕ → Type 0) → ℕ → Type 0
IsModeThat t fits k = (m : Mode) × (slice_get t.modes k ≡ Some m) × fits m.«module»

-- the parent of a module
abbrev pub parent_of : Tables → ℕ → Option ℕ
parent_of t k = elim (slice_get t.modules k) [ Some x ↦ x.parent | None ↦ None ]

-- going from parent to parent ends within so many steps
abbrev pub is_within : ℕ → Tables → Option ℕ → Bool
is_within steps t None = true
is_within zero t (Some m) = false
is_within (suc steps) t (Some m) = is_within steps t (parent_of t (mode_module t m))

-- a module starts in a mode of its own, and refines a mode of a module of lower number, at most 8 levels deep
pub record IsModuleInRange (t : Tables) (k : ℕ) (x : Module) : Type 0 where
  pub start : IsModeThat t (λ owner. owner ≡ k) x.start
  pub parent : IfSome x.parent (IsModeThat t (λ owner. owner < k))
  pub levels : is_within 7 t x.parent ≡ true

abbrev pub IsPortInRange : Tables → Port → Type 0
IsPortInRange t p = p.mode < length t.modes

pub record IsTaskInRange (t : Tables) (k : Task) : Type 0 where
  pub owner : k.«module» < length t.modules
  pub worst : IsSpan k.worst
  pub few_inputs : length k.inputs ≤ MAX_ENDS
  pub few_outputs : length k.outputs ≤ MAX_ENDS

-- an instance of a communicator, or a port of the mode
abbrev pub IsEndInRange : Tables → ℕ → End → Type 0
IsEndInRange t m (E.Comm c n) = (c < length t.comms) × (n ≤ MAX_PERIOD)
IsEndInRange t m (E.Port p) = (q : Port) × (slice_get t.ports p ≡ Some q) × (q.mode ≡ m)

-- an invocation is of a task of its mode's module
pub record IsInvInRange (t : Tables) (i : Inv) : Type 0 where
  pub owner : i.mode < length t.modes
  pub task : (k : Task) × (slice_get t.tasks i.task ≡ Some k) × (k.«module» ≡ mode_module t i.mode)
  pub parent : IfSome i.parent (λ p. p < length t.invs)
  pub reads : All (IsEndInRange t i.mode) i.reads
  pub writes : All (IsEndInRange t i.mode) i.writes
  pub few_reads : length i.reads ≤ MAX_ENDS
  pub few_writes : length i.writes ≤ MAX_ENDS

-- a switch goes to a mode of its mode's module
pub record IsSwitchInRange (t : Tables) (w : Switch) : Type 0 where
  pub owner : w.mode < length t.modes
  pub target : IsModeThat t (λ owner. owner ≡ mode_module t w.mode) w.target
  pub reads : All (λ c. c < length t.comms) w.reads
  pub different : are_different_numbers w.reads ≡ true
  pub few_reads : length w.reads ≤ MAX_ARGUMENTS

abbrev pub IsFunInRange : Fun → Type 0
IsFunInRange (Formula first e) = Unit {0}
IsFunInRange (Compiled c) = (1 ≤ length c.instrs) × (length c.instrs ≤ MAX_INSTRUCTIONS) × (length c.args ≤ MAX_ARGUMENTS)

pub record AreInRange (t : Tables) : Type 0 where
  -- how many there are
  pub few_comms : length t.comms ≤ MAX_COMMUNICATORS
  pub few_modules : length t.modules ≤ MAX_MODULES
  pub few_modes : length t.modes ≤ MAX_MODES
  pub few_ports : length t.ports ≤ MAX_PORTS
  pub few_tasks : length t.tasks ≤ MAX_TASKS
  pub few_invs : length t.invs ≤ MAX_INVOCATIONS
  pub few_switches : length t.switches ≤ MAX_SWITCHES
  pub few_in_mode : (m : ℕ) → count_by (λ i. eqb i.mode m) t.invs ≤ MAX_MODE_INVOCATIONS
  -- names of one space differ, and a task is invoked once in a mode
  pub comm_names : are_different (map (λ c. c.name) t.comms) ≡ true
  pub module_names : are_different (map (λ x. x.name) t.modules) ≡ true
  pub mode_names : are_different_owned (map (λ m. (m.«module», m.name)) t.modes) ≡ true
  pub port_names : are_different_owned (map (λ p. (p.mode, p.name)) t.ports) ≡ true
  pub task_names : are_different_owned (map (λ k. (k.«module», k.name)) t.tasks) ≡ true
  pub invoked_once : are_different_pairs (map (λ i. (i.mode, i.task)) t.invs) ≡ true
  -- owners don't fall
  pub modes_by_module : IsNonDecreasing (map (λ m. m.«module») t.modes)
  pub ports_by_mode : IsNonDecreasing (map (λ p. p.mode) t.ports)
  pub tasks_by_module : IsNonDecreasing (map (λ k. k.«module») t.tasks)
  pub invs_by_mode : IsNonDecreasing (map (λ i. i.mode) t.invs)
  pub switches_by_mode : IsNonDecreasing (map (λ w. w.mode) t.switches)
  -- each item
  pub comms : All IsCommInRange t.comms
  pub modes : All (IsModeInRange t) t.modes
  pub modules : (k : ℕ) (x : Module) → slice_get t.modules k ≡ Some x → IsModuleInRange t k x
  pub ports : All (IsPortInRange t) t.ports
  pub tasks : All (IsTaskInRange t) t.tasks
  pub invs : All (IsInvInRange t) t.invs
  pub switches : All (IsSwitchInRange t) t.switches
  pub functions : All IsFunInRange t.functions
  -- one function for each output of each concrete task, and one for each switch
  pub function_count : length t.functions ≡ count_before (length t.tasks) t.tasks + length t.switches
