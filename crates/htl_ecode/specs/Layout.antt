-- The E code that is made for tables.
use Rattle.std.specs.Prelude.{ℕ, zero, suc, ◌+◌, cond, eqb, List, [], ◌∷◌, ◌++◌, length, Option, Some, None}
use Rattle.htl_model.specs.{Lists.up_to, Lists.list_to, Tables.Tables}
use Rattle.htl_ecode.specs.{declared.ecode.ECode.ECode, declared.instr.EInstr.EInstr, Offsets.phase_offsets, Offsets.next_offset}
use Rattle.htl_ecode.specs.declared.instr.EInstr.TheVariants as I
use Rattle.htl_ecode.specs.Chains.{Requirement, Exactly, NextBlock, EndOfRound, SwitchJump, ModeJump, AtAnchor, enter_calls, begin_chain, block_chain, asks_of, tests_of}

-- a chain as instructions from an address on, with no jump between them; `to` says where the trigger of a phase leads.
-- An anchor takes no instruction.
abbrev pub laid : (ℕ → ℕ) → ℕ → List Requirement → List EInstr
laid to a [] = []
laid to a (Exactly j ∷ ws) = j ∷ laid to (suc a) ws
laid to a (NextBlock d p ∷ ws) = I.Future d p (to p) ∷ laid to (suc a) ws
laid to a (EndOfRound d x ∷ ws) = I.Future d 2 x ∷ laid to (suc a) ws
laid to a (SwitchJump k m x ∷ ws) = I.JumpIf k x ∷ laid to (suc a) ws
laid to a (ModeJump q ∷ ws) = I.IfMode q (a + 3) ∷ I.Leave ∷ I.Return ∷ laid to (a + 3) ws
laid to a (AtAnchor x ∷ ws) = laid to a ws

-- a block from an address on; its trigger leads to the address behind it
abbrev pub block_code : Tables → ℕ → ℕ → ℕ → ℕ → List EInstr
block_code t m phase a o = let ws = block_chain t m phase o in laid (λ p. a + length ws) a ws

-- the blocks of a phase by offset, from an address on, each directly behind the one before
abbrev pub blocks_code : ℕ → Tables → ℕ → ℕ → ℕ → Option ℕ → List EInstr
blocks_code zero t m phase a o = []
blocks_code (suc fuel) t m phase a None = []
blocks_code (suc fuel) t m phase a (Some o) =
    block_code t m phase a o ++ blocks_code fuel t m phase (a + length (block_chain t m phase o)) (next_offset t m phase (suc o))

abbrev pub phase_code : Tables → ℕ → ℕ → ℕ → List EInstr
phase_code t m phase a = blocks_code (length (phase_offsets t m phase)) t m phase a (next_offset t m phase 0)

-- ---- the places of the lists of a mode, by where the mode begins

abbrev pub begin_place : Tables → ℕ → ℕ → ℕ
begin_place t a m = a + length (enter_calls t m)

abbrev pub writes_place : Tables → ℕ → ℕ → ℕ
writes_place t a m = begin_place t a m + length (begin_chain t 0 m)

abbrev pub reads_place : Tables → ℕ → ℕ → ℕ
reads_place t a m = let b = writes_place t a m in b + length (phase_code t m 1 b)

abbrev pub decide_place : Tables → ℕ → ℕ → ℕ
decide_place t a m = let b = reads_place t a m in b + length (phase_code t m 3 b)

-- where the first block of a phase stands
abbrev pub first_block : ℕ → ℕ → ℕ → ℕ
first_block writes reads phase = cond (eqb phase 1) writes reads

abbrev pub begin_code : Tables → ℕ → ℕ → List EInstr
begin_code t a m =
    laid (first_block (writes_place t a m) (reads_place t a m)) (begin_place t a m) (begin_chain t (decide_place t a m) m)

-- what comes before the jump to the start of a round
abbrev pub decide_code : Tables → List ℕ → ℕ → ℕ → List EInstr
decide_code t enters a m = laid (λ p. 0) (decide_place t a m) (asks_of t m ++ tests_of t (begin_place t a m) enters m)

-- a mode from an address on: `enters` has the addresses at which the modes are entered
abbrev pub mode_code : Tables → List ℕ → ℕ → ℕ → List EInstr
mode_code t enters a m =
    enter_calls t m
    ++ (begin_code t a m
    ++ (phase_code t m 1 (writes_place t a m)
    ++ (phase_code t m 3 (reads_place t a m)
    ++ (decide_code t enters a m ++ I.Jump (begin_place t a m) ∷ []))))

-- where a mode begins: its length is the same wherever its switches lead
abbrev pub mode_place : Tables → ℕ → ℕ
mode_place t zero = 0
mode_place t (suc m) = mode_place t m + length (mode_code t [] (mode_place t m) m)

abbrev pub enter_places : Tables → ℕ → List ℕ
enter_places t n = list_to (mode_place t) n

abbrev pub layout : Tables → ECode
layout t =
    let n = length t.modes in
    let enters = enter_places t n in
    record {
      enter = enters;
      begin = list_to (λ m. begin_place t (mode_place t m) m) n;
      decide = list_to (λ m. decide_place t (mode_place t m) m) n;
      instrs = up_to (λ m. mode_code t enters (mode_place t m) m) n;
    }
