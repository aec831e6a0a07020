-- The lists of a file: their one spelling, their ranges, and the first bad field of bytes.
use Rattle.std.specs.Prelude.{◌≡◌, ℕ, zero, suc, ◌+◌, ◌-◌, ◌*◌, max, ◌==◌, ◌&&◌, Bool, false, cond, slice_get, is_none, List, [], ◌++◌, length, Option, Some, None, Ok, Err, nat_le, count_by, sum_by}
use Rattle.htl_object.specs.Common.{w16, w32, to_be_bytes, flat_map, frame_limit, nodes, Tables, Mode, Module, Task, Inv, EInstr, Schedule}
use Rattle.htl_base.specs.declared.limits.TheConstants.{MAX_COMMUNICATORS, MAX_MODULES, MAX_MODES, MAX_PORTS, MAX_TASKS, MAX_INVOCATIONS, MAX_SWITCHES, MAX_SELECTIONS, MAX_POSITIONS}
use Rattle.htl_object.specs.{declared.malformed.MalKind.TheVariants.Trailing, declared.malformed.Malformed.Malformed, declared.malformed.Bad.Bad, declared.lists.Anchors.Anchors, declared.lists.Counts.Counts, declared.lists.Lists.Lists}
use Rattle.htl_object.specs.{Lists.tables_of_lists, Comms.comm_bytes, Comms.comm_at, Modes.mode_bytes, Modes.mode_at, Modules.module_bytes, Modules.module_at, Modules.is_mode_of, Schedules.IsSchedule}
use Rattle.htl_object.specs.Reading.{Read, ◌>>=◌, bad_at, need, items_at, number_at, limited_count}
use Rattle.htl_object.specs.{Ports.port_bytes, Ports.port_at, Ports.task_bytes, Ports.task_at, Invocations.inv_bytes, Invocations.inv_at, Invocations.switch_bytes, Invocations.switch_at}
use Rattle.htl_object.specs.{Instructions.code_bytes, Instructions.code_at, Instructions.e_bytes, Instructions.e_instr_at, Versions.head_bytes, Versions.head_at, Versions.IsPlatformName, Versions.tail_bytes, Versions.tail_at}
use Rattle.htl_object.specs.Items.{Each, Every, Fits16, Is32, IsComm, IsMode, IsModule, IsPort, IsTask, IsInv, IsSwitch, IsCode, IsEInstr}

-- ---- counts

abbrev pub counts_of : Lists → Counts
counts_of o =
    record {
      comms = length o.comms;
      modes = length o.modes;
      modules = length o.modules;
      ports = length o.ports;
      tasks = length o.tasks;
      invs = length o.invs;
      switches = length o.switches;
    }

abbrev pub counts_bytes : Counts → List ℕ
counts_bytes n =
    to_be_bytes w16 n.comms ++ (to_be_bytes w16 n.modes ++ (to_be_bytes w16 n.modules ++ (to_be_bytes w16 n.ports
    ++ (to_be_bytes w16 n.tasks ++ (to_be_bytes w16 n.invs ++ to_be_bytes w16 n.switches)))))

abbrev pub counts_at : List ℕ → Read Counts
counts_at bytes =
    limited_count MAX_COMMUNICATORS bytes >>= λ comms rest.
    limited_count MAX_MODES rest >>= λ modes rest.
    limited_count MAX_MODULES rest >>= λ modules rest.
    limited_count MAX_PORTS rest >>= λ ports rest.
    limited_count MAX_TASKS rest >>= λ tasks rest.
    limited_count MAX_INVOCATIONS rest >>= λ invs rest.
    limited_count MAX_SWITCHES rest >>= λ switches rest.
    Ok (record { comms = comms; modes = modes; modules = modules; ports = ports; tasks = tasks; invs = invs; switches = switches }, rest)

pub record AreCounts (n : Counts) : Type 0 where
  pub comms : Fits16 (λ k. nat_le k MAX_COMMUNICATORS) n.comms
  pub modes : Fits16 (λ k. nat_le k MAX_MODES) n.modes
  pub modules : Fits16 (λ k. nat_le k MAX_MODULES) n.modules
  pub ports : Fits16 (λ k. nat_le k MAX_PORTS) n.ports
  pub tasks : Fits16 (λ k. nat_le k MAX_TASKS) n.tasks
  pub invs : Fits16 (λ k. nat_le k MAX_INVOCATIONS) n.invs
  pub switches : Fits16 (λ k. nat_le k MAX_SWITCHES) n.switches

-- ---- what the tables ask for

abbrev pub counted_functions : List Task → ℕ → ℕ
counted_functions tasks switches = sum_by (λ t. cond t.is_abstract 0 (length t.outputs)) tasks + switches

-- module k is a root
abbrev pub is_root_number : List Module → ℕ → Bool
is_root_number modules k = elim (slice_get modules k) [ Some m ↦ is_none m.parent | None ↦ false ]

-- one mode for each root module below n
abbrev pub selections_to : List Mode → List Module → ℕ → ℕ
selections_to modes modules zero = 1
selections_to modes modules (suc n) =
    selections_to modes modules n * cond (is_root_number modules n) (count_by (λ q. q.«module» == n) modes) 1

-- the most invocations of a mode of module k, of the modes below q
abbrev pub widest_to : List Mode → List Inv → ℕ → ℕ → ℕ
widest_to modes invs k zero = 0
widest_to modes invs k (suc q) =
    max (widest_to modes invs k q) (cond (is_mode_of modes k q) (count_by (λ i. i.mode == q) invs) 0)

-- the most positions of a selection, of the root modules below n
abbrev pub positions_to : List Mode → List Module → List Inv → ℕ → ℕ
positions_to modes modules invs zero = 0
positions_to modes modules invs (suc n) =
    positions_to modes modules invs n + cond (is_root_number modules n) (widest_to modes invs n (length modes)) 0

-- how many selections there are, none without modules
abbrev pub selections_of : List Mode → List Module → ℕ
selections_of modes modules = cond (length modules == 0) 0 (selections_to modes modules (length modules))

-- there are few selections, and none has more positions than there may be
abbrev pub are_few : List Mode → List Module → List Inv → Bool
are_few modes modules invs =
    nat_le (selections_of modes modules) MAX_SELECTIONS && nat_le (positions_to modes modules invs (length modules)) MAX_POSITIONS

-- the number of nodes, where no limit on selections, positions or frames is exceeded
abbrev pub is_node_count : Tables → ℕ → Bool
is_node_count t n = are_few t.modes t.modules t.invs && (is_none (frame_limit t) && n == nodes t)

-- ---- the parts behind the tables

abbrev pub anchors_bytes : Anchors → List ℕ
anchors_bytes a = to_be_bytes w32 a.enter ++ (to_be_bytes w32 a.begin ++ to_be_bytes w32 a.decide)

abbrev pub anchors_at : List ℕ → Read Anchors
anchors_at bytes =
    number_at w32 bytes >>= λ enter rest.
    number_at w32 rest >>= λ begin rest.
    number_at w32 rest >>= λ decide rest.
    Ok (record { enter = enter; begin = begin; decide = decide }, rest)

pub record AreAnchors (a : Anchors) : Type 0 where
  pub enter : Is32 a.enter
  pub begin : Is32 a.begin
  pub decide : Is32 a.decide

abbrev pub e_code_bytes : List EInstr → List ℕ
e_code_bytes xs = to_be_bytes w32 (length xs) ++ flat_map e_bytes xs

abbrev pub e_code_at : List ℕ → Read (List EInstr)
e_code_at bytes = number_at w32 bytes >>= λ n rest. items_at (λ _. e_instr_at) n [] rest

abbrev pub IsECode : List EInstr → Type 0
IsECode xs = Is32 (length xs) × Every IsEInstr xs

-- ---- what stands before the schedules

abbrev pub front_bytes : Lists → List ℕ
front_bytes o =
    head_bytes o.platform ++ (counts_bytes (counts_of o) ++ (flat_map comm_bytes o.comms ++ (flat_map mode_bytes o.modes ++ (flat_map module_bytes o.modules
    ++ (flat_map port_bytes o.ports ++ (flat_map task_bytes o.tasks ++ (flat_map inv_bytes o.invs
    ++ (flat_map switch_bytes o.switches ++ (flat_map code_bytes o.functions ++ (flat_map anchors_bytes o.anchors
    ++ e_code_bytes o.instrs))))))))))

-- the lists of a file whose schedules are not read yet
abbrev pub front_at : List ℕ → Read Lists
front_at bytes =
    head_at bytes >>= λ platform rest.
    counts_at rest >>= λ n rest.
    items_at comm_at n.comms [] rest >>= λ comms rest.
    items_at (mode_at n.modules) n.modes [] rest >>= λ modes rest.
    items_at (module_at modes) n.modules [] rest >>= λ modules rest.
    items_at (port_at n.modes) n.ports [] rest >>= λ ports rest.
    items_at (task_at n.modules) n.tasks [] rest >>= λ tasks rest.
    items_at (inv_at n.comms n.invs modes tasks ports) n.invs [] rest >>= λ invs rest.
    items_at (switch_at n.comms modes) n.switches [] rest >>= λ switches rest.
    items_at (λ _. code_at) (counted_functions tasks n.switches) [] rest >>= λ functions rest.
    items_at (λ _. anchors_at) n.modes [] rest >>= λ anchors rest.
    e_code_at rest >>= λ instrs rest.
    Ok (
      record {
        comms = comms;
        modes = modes;
        modules = modules;
        ports = ports;
        tasks = tasks;
        invs = invs;
        switches = switches;
        functions = functions;
        anchors = anchors;
        instrs = instrs;
        schedules = [];
        platform = platform;
      },
      rest,
    )

-- what stands before the schedules is in range, the counts being n
pub record IsFront (n : Counts) (o : Lists) : Type 0 where
  pub counts : AreCounts n
  pub comms : Each IsComm [] o.comms
  pub modes : Each (IsMode n.modules) [] o.modes
  pub modules : Each (IsModule o.modes) [] o.modules
  pub ports : Each (IsPort n.modes) [] o.ports
  pub tasks : Each (IsTask n.modules) [] o.tasks
  pub invs : Each (IsInv n.comms n.invs o.modes o.tasks o.ports) [] o.invs
  pub switches : Each (IsSwitch n.comms o.modes) [] o.switches
  pub function_count : length o.functions ≡ counted_functions o.tasks n.switches
  pub functions : Every IsCode o.functions
  pub anchor_count : length o.anchors ≡ n.modes
  pub anchors : Every AreAnchors o.anchors
  pub instrs : IsECode o.instrs
  pub platform : IsPlatformName o.platform

abbrev pub IsFrontInRange : Lists → Type 0
IsFrontInRange o = IsFront (counts_of o) o

-- ---- the whole

abbrev pub with_schedules : Lists → List Schedule → Lists
with_schedules l schedules = record l { schedules = schedules }

abbrev pub file_bytes : Lists → List ℕ
file_bytes o = front_bytes o ++ tail_bytes o.platform o.schedules

-- the schedules are as many as the tables before them have nodes
abbrev pub file_at : List ℕ → Read Lists
file_at bytes =
    front_at bytes >>= λ l rest.
    tail_at l.platform (is_node_count (tables_of_lists l)) rest >>= λ schedules rest.
    Ok (with_schedules l schedules, rest)

-- the object is in range
pub record IsFileInRange (o : Lists) : Type 0 where
  pub front : IsFrontInRange o
  pub schedule_count : Fits16 (is_node_count (tables_of_lists o)) (length o.schedules)
  pub schedules : Every IsSchedule o.schedules

-- an object that is all of the bytes
abbrev pub whole_at : List ℕ → Read Lists
whole_at bytes = file_at bytes >>= λ o rest. need (length rest == 0) (bad_at Trailing rest) (Ok (o, rest))

abbrev pub malformed_at : List ℕ → Bad → Malformed
malformed_at bytes bad = record { offset = length bytes - bad.left; kind = bad.kind }

abbrev pub fault_of : {X : Type 0} → List ℕ → Read X → Option Malformed
fault_of bytes (Ok x) = None
fault_of bytes (Err bad) = Some (malformed_at bytes bad)

-- the first bad field
abbrev pub first_bad : List ℕ → Option Malformed
first_bad bytes = fault_of bytes (whole_at bytes)
