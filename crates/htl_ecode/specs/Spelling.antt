-- When E code spells tables.
use Rattle.std.specs.Prelude.{ℕ, ◌<◌, List, length, All, IsOk}
use Rattle.htl_model.specs.Tables.{Tables}
use Rattle.htl_ecode.specs.{declared.ecode.ECode.ECode, declared.instr.EInstr.EInstr, Chains.Requirement, Chains.enter_chain, Chains.begin_chain, Chains.block_chain, Chains.decide_chain, Steps.read}
use Rattle.htl_ecode.specs.Departure.{Block, blocks, entered, block_begun, decided}

-- a chain has its path from an address: it is read there without departure
abbrev pub HasPath : List EInstr → ℕ → List Requirement → Type 0
HasPath code a ws = IsOk (read code a ws)

-- the blocks of a phase, followed by their triggers from the start of a round on, have their paths
abbrev pub BlocksHavePaths : Tables → ECode → ℕ → ℕ → Type 0
BlocksHavePaths t code m phase = All (λ (b : Block). HasPath code.instrs b.address (block_chain t m phase b.offset)) (blocks t code m phase)

-- every chain of a mode has its path
pub record SpellsMode (t : Tables) (code : ECode) (m : ℕ) : Type 0 where
  pub enters : HasPath code.instrs (entered code m) (enter_chain t (block_begun code m) m)
  pub begins : HasPath code.instrs (block_begun code m) (begin_chain t (decided code m) m)
  pub writes : BlocksHavePaths t code m 1
  pub reads : BlocksHavePaths t code m 3
  pub decides : HasPath code.instrs (decided code m) (decide_chain t (block_begun code m) code.enter m)

-- E code spells tables: every chain of every mode has its path
abbrev pub Spells : Tables → ECode → Type 0
Spells t code = (m : ℕ) → m < length t.modes → SpellsMode t code m
