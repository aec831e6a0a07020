-- Where the invocations of a mode stand.
use Rattle.std.specs.Prelude.{◌+◌}
use Rattle.htl_model.specs.{Starts.IsStartOf, Tables.Tables}
use Rattle.htl_ecode.specs.declared.mode_invs.ModeInvs.{ModeInvs}

-- no invocation outside the run is of the mode, and none inside is of another
pub record AreInvsOf (t : Tables) (run : ModeInvs) : Type 0 where
  pub first : IsStartOf t run.mode run.start
  pub behind : IsStartOf t (run.mode + 1) run.end
