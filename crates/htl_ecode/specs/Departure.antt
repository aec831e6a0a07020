-- The blocks of a phase, followed by their triggers, and where E code first departs from tables.
use Rattle.std.specs.Prelude.{ℕ, zero, suc, true, false, eqb, List, [], ◌∷◌, length, get_or, Option, Some, None, Result, Ok, Err}
use Rattle.htl_model.specs.Tables.{Tables}
use Rattle.htl_ecode.specs.{declared.ecode.ECode.ECode, declared.instr.EInstr.EInstr, declared.fault.EFault.EFault, Offsets.phase_offsets, Offsets.next_offset, Chains.enter_chain, Chains.begin_chain, Chains.block_chain, Chains.decide_chain}
use Rattle.htl_ecode.specs.Steps.{read, steps_of, target_of}

abbrev pub entered : ECode → ℕ → ℕ
entered code m = get_or code.enter m 0

abbrev pub block_begun : ECode → ℕ → ℕ
block_begun code m = get_or code.begin m 0

abbrev pub decided : ECode → ℕ → ℕ
decided code m = get_or code.decide m 0

-- ---- the blocks of a phase, each with its offset and the address to which its trigger leads

pub record Block : Type 0 where
  pub offset : ℕ
  pub address : ℕ

-- where the trigger in the block at an address leads
abbrev pub branch_on : Tables → List EInstr → ℕ → ℕ → ℕ → ℕ → Option ℕ
branch_on t code m phase o a = let ws = block_chain t m phase o in target_of phase ws (steps_of (read code a ws))

abbrev pub blocks_from : ℕ → Tables → List EInstr → ℕ → ℕ → Option ℕ → Option ℕ → List Block
blocks_from zero t code m phase o a = []
blocks_from (suc fuel) t code m phase (Some o) (Some a) =
    record { offset = o; address = a } ∷ blocks_from fuel t code m phase (next_offset t m phase (suc o)) (branch_on t code m phase o a)
blocks_from (suc fuel) t code m phase _ _ = []

-- where the first trigger of a phase in a round leads
abbrev pub first_target : Tables → ECode → ℕ → ℕ → Option ℕ
first_target t code m phase =
    let ws = begin_chain t (decided code m) m in
    target_of phase ws (steps_of (read code.instrs (block_begun code m) ws))

-- there are at most as many blocks as offsets
abbrev pub blocks : Tables → ECode → ℕ → ℕ → List Block
blocks t code m phase =
    blocks_from (length (phase_offsets t m phase)) t code.instrs m phase (next_offset t m phase 0) (first_target t code m phase)

abbrev pub address_in : ℕ → List Block → Option ℕ
address_in o [] = None
address_in o (b ∷ bs) = let rest = address_in o bs in elim (eqb b.offset o) [ true ↦ Some b.address | false ↦ rest ]

-- where the block of a phase at an offset stands
abbrev pub block_at : Tables → ECode → ℕ → ℕ → ℕ → Option ℕ
block_at t code m phase o = address_in o (blocks t code m phase)

-- ---- the first departure

abbrev pub fault_of : {A : Type 0} → Result A EFault → Option EFault
fault_of (Ok x) = None
fault_of (Err e) = Some e

abbrev pub either : Option EFault → Option EFault → Option EFault
either (Some e) rest = Some e
either None rest = rest

abbrev pub block_faults : Tables → List EInstr → ℕ → ℕ → List Block → Option EFault
block_faults t code m phase [] = None
block_faults t code m phase (b ∷ bs) =
    either (fault_of (read code b.address (block_chain t m phase b.offset))) (block_faults t code m phase bs)

abbrev pub enter_fault : Tables → ECode → ℕ → Option EFault
enter_fault t code m = fault_of (read code.instrs (entered code m) (enter_chain t (block_begun code m) m))

abbrev pub begin_fault : Tables → ECode → ℕ → Option EFault
begin_fault t code m = fault_of (read code.instrs (block_begun code m) (begin_chain t (decided code m) m))

abbrev pub phase_fault : Tables → ECode → ℕ → ℕ → Option EFault
phase_fault t code m phase = block_faults t code.instrs m phase (blocks t code m phase)

abbrev pub decide_fault : Tables → ECode → ℕ → Option EFault
decide_fault t code m = fault_of (read code.instrs (decided code m) (decide_chain t (block_begun code m) code.enter m))

abbrev pub mode_fault : Tables → ECode → ℕ → Option EFault
mode_fault t code m =
    either (enter_fault t code m)
    (either (begin_fault t code m)
    (either (phase_fault t code m 1)
    (either (phase_fault t code m 3)
    (decide_fault t code m))))

-- the first departure in the modes below m
abbrev pub departure_before : Tables → ECode → ℕ → Option EFault
departure_before t code zero = None
departure_before t code (suc m) = either (departure_before t code m) (mode_fault t code m)

-- the first departure of E code from the tables
abbrev pub departure : Tables → ECode → Option EFault
departure t code = departure_before t code (length t.modes)
