-- What an E machine and its world are asked for in a test.
use Rattle.std.specs.Prelude.{◌≤◌, length}
use Rattle.htl_model.specs.{FrameRules.KeptApart, FunctionTypes.FitPlaces, Tables.Tables}
use Rattle.htl_ecode.specs.{declared.ecode.ECode.ECode, Spelling.Spells}
use Rattle.htl_emach.specs.{Calendars.Standing, Contents.Content, Safety.StandsSafely, Shapes.IsShaped}

-- they can be asked to go on: the tables keep the form rules 1 to 12 and have verified code, and the E code spells them
pub record CanRun (t : Tables) (code : ECode) (m : Standing) (w : Content) : Type 0 where
  pub formed : KeptApart t 12
  pub fits : FitPlaces t
  pub spells : Spells t code
  pub few : length code.instrs ≤ 4294967295
  pub safe : StandsSafely t code m
  pub shaped : IsShaped t w
