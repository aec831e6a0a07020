-- The laws of the E machine.
use Rattle.std.specs.Prelude.{◌≡◌, ℕ, suc, List, [], ◌++◌, None}
use Rattle.htl_model.specs.{declared.event.Event.Event, FrameRules.KeptApart, Ranges.AreInRange, Tables.Tables}
use Rattle.htl_ecode.specs.{declared.ecode.ECode.ECode, Paths.Done, Paths.e_path, Spelling.Spells}
use Rattle.htl_emach.specs.{Calendars.Standing, Due.IsUpToNext, Following.Midway, Following.Onward, Following.FollowsCode, Following.phase_path}

-- a machine goes from phase to phase of an instant, and to the next instant
pub record PassesInstant (t : Tables) (code : ECode) (es : List Event) (now : ℕ) : Type 0 where
  -- before the instant it stands at the start of the write phase
  pub opens : (m : Standing) → FollowsCode t code es now m → Midway t code es now 1 m [] (phase_path t code es now 1)
  -- where nothing of a phase is due any more it stands at the start of the next
  pub switches : (m : Standing) (done rest : List Done) → Onward t code es now 1 m done rest None → Midway t code es now 2 m [] (phase_path t code es now 2)
  pub reads : (m : Standing) (done rest : List Done) → Onward t code es now 2 m done rest None → Midway t code es now 3 m [] (phase_path t code es now 3)
  -- and after the last phase before the next instant
  pub closes : (m : Standing) (done rest : List Done) → Onward t code es now 3 m done rest None → FollowsCode t code es (suc now) m
  -- what is done at the instant is what the three phases do
  pub path : e_path t code es now ≡ phase_path t code es now 1 ++ (phase_path t code es now 2 ++ phase_path t code es now 3)

-- for tables that keep form rules 1 to 12 and code that spells them
abbrev pub InstantsFollow : Type 0
InstantsFollow =
    (t : Tables) (code : ECode) (es : List Event) (now : ℕ) → AreInRange t → KeptApart t 12 → Spells t code → PassesInstant t code es now

-- where a machine stands in a phase of an instant of a run, nothing of any phase was to be done before the instant
abbrev pub NothingOverdue : Type 0
NothingOverdue =
    (t : Tables) (code : ECode) (es : List Event) (now phase : ℕ) (m : Standing) (done rest : List Done) → AreInRange t → Midway t code es now phase m done rest → IsUpToNext now m
