-- The ranges of the numbers in an object.
use Rattle.std.specs.Prelude.{◌≡◌, ◌≤◌, None, length, All}
use Rattle.htl_object.specs.{Common.EInstr, Common.KeepsLimits, Common.frame_limit, Common.nodes, Common.AreInRange, Common.Fun, Common.Formula, Common.Compiled, Common.Schedule, declared.object.Object.Object}
use Rattle.htl_ecode.specs.declared.instr.EInstr.TheVariants as I

abbrev pub IsFunctionCode : Fun → Type 0
IsFunctionCode (Formula first e) = ⊥
IsFunctionCode (Compiled code) = Unit {0}

-- a trigger is of one of three phases
abbrev pub IsPhased : EInstr → Type 0
IsPhased (I.Future delay phase target) = (1 ≤ phase) × (phase ≤ 3)
IsPhased _ = Unit {0}

abbrev pub IsShort : Schedule → Type 0
IsShort s = length s.instrs ≤ 4294967295

-- the functions are code, each mode has three addresses, each node has a schedule
pub record IsInRange (o : Object) : Type 0 where
  pub tables : AreInRange o.tables
  pub limits : KeepsLimits o.tables
  pub frames : frame_limit o.tables ≡ None
  pub coded : All IsFunctionCode o.tables.functions
  pub enter : length o.ecode.enter ≡ length o.tables.modes
  pub begin : length o.ecode.begin ≡ length o.tables.modes
  pub decide : length o.ecode.decide ≡ length o.tables.modes
  pub phases : All IsPhased o.ecode.instrs
  pub few_instrs : length o.ecode.instrs ≤ 4294967295
  pub schedules : length o.schedules ≡ nodes o.tables
  pub short : All IsShort o.schedules
