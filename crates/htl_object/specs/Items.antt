-- What is asked of each item of an object.
use Rattle.std.specs.Prelude.{◌≡◌, ℕ, ◌<◌, ◌^◌, ◌-◌, Bool, true, not, nat_le, nat_lt, length, Option, IfSome, List, [], ◌∷◌, ◌++◌, FitsSigned}
use Rattle.htl_object.specs.Common.{w64, MAX_ENDS, MAX_ARGUMENTS, MAX_LEVELS, is_name, Comm, Mode, Ty, Module, Port, Task, End, Inv, Switch, SInstr, Code, EInstr, FInstr}
use Rattle.htl_model.specs.declared.parts.End.TheVariants as N
use Rattle.htl_walk.specs.declared.schedule.SInstr.TheVariants as S
use Rattle.htl_ecode.specs.declared.instr.EInstr.TheVariants as E
use Rattle.htl_model.specs.declared.function.FInstr.TheVariants as F
use Rattle.htl_object.specs.{Fields.is_span, Fields.is_of, Fields.is_owner, Comms.is_named_comm, Modes.is_named_mode, Modes.last_module, Modules.is_named_module, Modules.is_mode_of, Modules.leads_up_within}
use Rattle.htl_object.specs.{Ports.last_mode, Ports.is_named_port, Ports.last_owner, Ports.is_named_task, Instructions.is_phase, Instructions.is_body}
use Rattle.htl_object.specs.Invocations.{is_instance, is_port_of, is_inv_mode, is_inv_task, is_parent, last_switch_mode, is_target, is_read}

-- each item fits, given those before it
abbrev pub Each : {X : Type 0} → (List X → X → Type 0) → List X → List X → Type 0
Each fits before [] = Unit {0}
Each fits before (x ∷ xs) = fits before x × Each fits (before ++ x ∷ []) xs

-- the same where those before do not matter
abbrev pub Every : {X : Type 0} → (X → Type 0) → List X → Type 0
Every fits xs = Each (λ _. fits) [] xs

-- a field of two bytes whose number passes a test
abbrev pub Fits16 : (ℕ → Bool) → ℕ → Type 0
Fits16 test n = (n < 2 ^ 16) × (test n ≡ true)

pub record IsComm (before : List Comm) (c : Comm) : Type 0 where
  pub name : is_name c.name ≡ true
  pub differs : not (is_named_comm before c.name) ≡ true
  pub period : is_span c.period ≡ true
  pub init : is_of c.ty c.init ≡ true
  pub width : FitsSigned w64 c.init

pub record IsMode (modules : ℕ) (before : List Mode) (m : Mode) : Type 0 where
  pub name : is_name m.name ≡ true
  pub owner : Fits16 (is_owner modules (last_module before)) m.«module»
  pub differs : not (is_named_mode before m.«module» m.name) ≡ true
  pub period : is_span m.period ≡ true

abbrev pub IsOption : Option ℕ → Type 0
IsOption o = IfSome o (λ n. n < 65535)

pub record IsModule (modes : List Mode) (before : List Module) (m : Module) : Type 0 where
  pub name : is_name m.name ≡ true
  pub differs : not (is_named_module before m.name) ≡ true
  pub parent : IsOption m.parent × (leads_up_within (MAX_LEVELS - 1) modes before m.parent ≡ true)
  pub start : Fits16 (is_mode_of modes (length before)) m.start

pub record IsPort (modes : ℕ) (before : List Port) (p : Port) : Type 0 where
  pub name : is_name p.name ≡ true
  pub owner : Fits16 (is_owner modes (last_mode before)) p.mode
  pub differs : not (is_named_port before p.mode p.name) ≡ true

-- not too many types
abbrev pub AreTypes : List Ty → Type 0
AreTypes ts = Fits16 (λ n. nat_le n MAX_ENDS) (length ts) × Every (λ _. Unit {0}) ts

pub record IsTask (modules : ℕ) (before : List Task) (t : Task) : Type 0 where
  pub name : is_name t.name ≡ true
  pub owner : Fits16 (is_owner modules (last_owner before)) t.«module»
  pub differs : not (is_named_task before t.«module» t.name) ≡ true
  pub worst : is_span t.worst ≡ true
  pub inputs : AreTypes t.inputs
  pub outputs : AreTypes t.outputs

abbrev pub IsEnd : ℕ → List Port → ℕ → End → Type 0
IsEnd comms ports mode (N.Comm comm instance) = Fits16 (λ n. nat_lt n comms) comm × ((instance < 2 ^ 32) × (is_instance instance ≡ true))
IsEnd comms ports mode (N.Port port) = Fits16 (is_port_of ports mode) port

abbrev pub AreEnds : ℕ → List Port → ℕ → List End → Type 0
AreEnds comms ports mode ends = Fits16 (λ n. nat_le n MAX_ENDS) (length ends) × Every (IsEnd comms ports mode) ends

pub record IsInv (comms invs : ℕ) (modes : List Mode) (tasks : List Task) (ports : List Port) (before : List Inv) (i : Inv) : Type 0 where
  pub mode : Fits16 (is_inv_mode (length modes) before) i.mode
  pub task : Fits16 (is_inv_task modes tasks before i.mode) i.task
  pub parent : IsOption i.parent × (is_parent invs i.parent ≡ true)
  pub reads : AreEnds comms ports i.mode i.reads
  pub writes : AreEnds comms ports i.mode i.writes

pub record IsSwitch (comms : ℕ) (modes : List Mode) (before : List Switch) (s : Switch) : Type 0 where
  pub mode : Fits16 (is_owner (length modes) (last_switch_mode before)) s.mode
  pub target : Fits16 (is_target modes s.mode) s.target
  pub read_count : Fits16 (λ n. nat_le n MAX_ARGUMENTS) (length s.reads)
  pub reads : Each (λ before. Fits16 (is_read comms before)) [] s.reads

abbrev pub Is16 : ℕ → Type 0
Is16 n = n < 2 ^ 16

abbrev pub Is32 : ℕ → Type 0
Is32 n = n < 2 ^ 32

abbrev pub IsPhase : ℕ → Type 0
IsPhase n = (n < 256) × (is_phase n ≡ true)

abbrev pub IsSInstr : SInstr → Type 0
IsSInstr (S.Dispatch position until) = Is16 position × Is32 until
IsSInstr (S.Idle until) = Is32 until
IsSInstr S.End = Unit {0}

-- operands have their widths; a phase is 1, 2 or 3
abbrev pub IsEInstr : EInstr → Type 0
IsEInstr (E.CallWrite inv output) = Is16 inv × Is16 output
IsEInstr (E.CallRead inv input) = Is16 inv × Is16 input
IsEInstr (E.Release inv) = Is16 inv
IsEInstr (E.Future delay phase target) = Is32 delay × (IsPhase phase × Is32 target)
IsEInstr (E.JumpIf switch target) = Is16 switch × Is32 target
IsEInstr (E.Jump target) = Is32 target
IsEInstr (E.IfMode mode target) = Is16 mode × Is32 target
IsEInstr (E.Enter mode) = Is16 mode
IsEInstr (E.Fork unit) = Is16 unit
IsEInstr _ = Unit {0}

abbrev pub IsFInstr : FInstr → Type 0
IsFInstr (F.Int x) = FitsSigned w64 x
IsFInstr (F.Bool x) = x < 256
IsFInstr (F.Arg k) = Is16 k
IsFInstr _ = Unit {0}

pub record IsCode (c : Code) : Type 0 where
  pub arg_count : Fits16 (λ n. nat_le n MAX_ARGUMENTS) (length c.args)
  pub args : Every (λ _. Unit {0}) c.args
  pub instr_count : Fits16 is_body (length c.instrs)
  pub instrs : Every IsFInstr c.instrs
