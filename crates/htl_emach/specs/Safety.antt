-- That a machine can go on whatever tests answer: where triggers lead, and where a block goes.
use Rattle.std.specs.Prelude.{◌≡◌, ℕ, ◌<◌, Bool, false, eqb, List, length, slice_get, Option, Some, None, ◌⊎◌}
use Rattle.htl_model.specs.Tables.{Tables, mode_module}
use Rattle.htl_ecode.specs.{declared.ecode.ECode.ECode, declared.instr.EInstr.EInstr, Departure.block_at, Departure.entered, Paths.round_end}
use Rattle.htl_ecode.specs.declared.instr.EInstr.TheVariants as I
use Rattle.htl_emach.specs.{declared.trigger.Trigger.Trigger, declared.trigger.Block.Block, Calendars.Standing, Calendars.list_at, Calendars.goes, Calendars.entry_of, Leading.HasOutput, Leading.HasInput, Pending.IsSized}

-- a block of the phase in a mode
abbrev pub StartsIn : Tables → ECode → ℕ → ℕ → ℕ → Type 0
StartsIn t code m p a = ((o : ℕ) × (eqb p 2 ≡ false) × (block_at t code m p o ≡ Some a)) ⊎ ((a ≡ round_end t code m) ⊎ (a ≡ entered code m))

-- a block of the phase in a mode of module k begins at a
pub record IsStart (t : Tables) (code : ECode) (k p a : ℕ) : Type 0 where
  pub mode : ℕ
  pub known : mode < length t.modes
  pub owner : mode_module t mode ≡ k
  pub phase : (p ≡ 1) ⊎ ((p ≡ 2) ⊎ (p ≡ 3))
  pub starts : StartsIn t code mode p a

-- an instruction that fits in module k: its operands are in range, and a trigger that it sets leads to a block
abbrev pub IsFit : Tables → ECode → ℕ → EInstr → Type 0
IsFit t code k (I.CallWrite i o) = HasOutput t i o
IsFit t code k (I.CallRead i o) = HasInput t i o
IsFit t code k (I.Future d p x) = IsStart t code k p x
IsFit t code k (I.JumpIf j x) = j < length t.switches
IsFit t code k (I.Fork j) = (j < length t.modules) × IsStart t code j 2 (entry_of t code j)
IsFit t code k _ = Unit {0}

-- where an instruction at a may lead
abbrev pub MayLead : ℕ → EInstr → ℕ → Type 0
MayLead a i c = (holds : ℕ → Bool) × (runs : ℕ → Bool) × (goes holds runs a i ≡ Some c)

-- from an address of module k each way ends, and all that is met fits
pub data IsSafe (t : Tables) (code : ECode) (k : ℕ) : ℕ → Type 0 where
  safe : (a : ℕ) (i : EInstr) → slice_get code.instrs a ≡ Some i → IsFit t code k i → ((c : ℕ) → MayLead a i c → IsSafe t code k c) → IsSafe t code k a

abbrev pub RunsSafely : Tables → ECode → Option Block → Type 0
RunsSafely t code None = Unit {0}
RunsSafely t code (Some b) = (b.«module» < length t.modules) × IsSafe t code b.«module» b.address

-- each trigger of a phase leads to a block of the phase
abbrev pub LeadToBlocks : Tables → ECode → ℕ → List (Option Trigger) → Type 0
LeadToBlocks t code p xs = (k : ℕ) (x : Trigger) → list_at xs k ≡ Some x → IsStart t code k p x.target

pub record StandsSafely (t : Tables) (code : ECode) (m : Standing) : Type 0 where
  pub sized : IsSized t m.calendar
  pub writes : LeadToBlocks t code 1 m.calendar.writes
  pub switches : LeadToBlocks t code 2 m.calendar.switches
  pub reads : LeadToBlocks t code 3 m.calendar.reads
  pub running : RunsSafely t code m.running
