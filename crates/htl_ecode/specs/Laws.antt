-- The laws of E code.
use Rattle.std.specs.Prelude.{◌≡◌, ◌↔◌, ℕ, suc, ◌<◌, true, false, length, Some, None}
use Rattle.htl_model.specs.Tables.{Tables}
use Rattle.htl_ecode.specs.{declared.ecode.ECode.ECode, Offsets.phase_offsets, Offsets.next_offset, Offsets.holds, Chains.block_chain, Departure.departure, Departure.block_at, Departure.branch_on, Departure.first_target, Layout.layout}
use Rattle.htl_ecode.specs.Spelling.{HasPath, Spells}

-- the layout of any tables spells them
abbrev pub LayoutSpells : Type 0
LayoutSpells = (t : Tables) → Spells t (layout t)

-- E code spells tables exactly where it departs from them nowhere
abbrev pub SpellsOrDeparts : Type 0
SpellsOrDeparts = (t : Tables) (code : ECode) → Spells t code ↔ (departure t code ≡ None)

-- the blocks of a phase of a mode
pub record HasBlocks (t : Tables) (code : ECode) (m phase : ℕ) : Type 0 where
  -- at each offset of the phase there is a block, and it has its path
  pub stands : (o : ℕ) → holds o (phase_offsets t m phase) ≡ true → (a : ℕ) × (block_at t code m phase o ≡ Some a) × HasPath code.instrs a (block_chain t m phase o)
  -- the first is where the start of a round leads
  pub first : (o : ℕ) → next_offset t m phase 0 ≡ Some o → block_at t code m phase o ≡ first_target t code m phase
  -- the next is where the trigger of a block leads
  pub links : (o o1 a : ℕ) → holds o (phase_offsets t m phase) ≡ true → block_at t code m phase o ≡ Some a → next_offset t m phase (suc o) ≡ Some o1 →
      block_at t code m phase o1 ≡ branch_on t code.instrs m phase o a
  -- at another offset there is none
  pub absent : (o : ℕ) → holds o (phase_offsets t m phase) ≡ false → block_at t code m phase o ≡ None

-- where E code spells tables, the blocks of writes and of reads stand at their offsets and nowhere else
abbrev pub BlocksStand : Type 0
BlocksStand = (t : Tables) (code : ECode) (m : ℕ) → Spells t code → m < length t.modes → HasBlocks t code m 1 × HasBlocks t code m 3
