-- When an instruction can be done.
use Rattle.std.specs.Prelude.{◌≡◌, ◌<◌, length, slice_get, Some}
use Rattle.htl_model.specs.Tables.{Tables}
use Rattle.htl_ecode.specs.{declared.ecode.ECode.ECode, declared.instr.EInstr.EInstr}
use Rattle.htl_ecode.specs.declared.instr.EInstr.TheVariants as I
use Rattle.htl_emach.specs.{declared.trigger.Block.Block, Contents.Content, Shapes.HasRoom, Calendars.Calendar, Calendars.HasModule}

-- an instruction's operands are in range
abbrev pub Fits : Tables → Calendar → Content → EInstr → Type 0
Fits t c w (I.JumpIf k x) = k < length t.switches
Fits t c w (I.Fork k) = HasModule c k
Fits t c w i = HasRoom t w i

-- the block's next instruction stands in the code, and its operands are in range
pub record IsReady (t : Tables) (code : ECode) (c : Calendar) (w : Content) (b : Block) : Type 0 where
  pub «module» : HasModule c b.«module»
  pub stands : b.address < length code.instrs
  pub fits : (i : EInstr) → slice_get code.instrs b.address ≡ Some i → Fits t c w i
