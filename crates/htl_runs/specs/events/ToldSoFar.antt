-- When a machine follows what calls told it, and what calls do to what it keeps.
use Rattle.std.specs.Prelude.{◌≡◌, ℕ, ◌≤◌, ◌<◌, Bool, false, List, [], ◌∷◌, length, get_or, set, Some, None, ℤ, pos}
use Rattle.htl_runs.specs.Common.{Event, Tables, sense, SInstr, ECode, Standing, StandsSafely, HasValues, IsShaped, Round, state_of, PosState, Pending, AreInRange, KeptApart, AreTookWithin, took, Content}
use Rattle.htl_emach.specs.Following as machines
use Rattle.htl_model.specs.declared.event.Event.TheVariants as V
use Rattle.htl_walk.specs.Feasible.{AreFeasible}
use Rattle.htl_runs.specs.{values.Values.ValuesFollow, frames.LastPositions.position_from, lines.Lines.e_done}

-- what contracts see of a machine, but for its triggers and totals
pub record RunState : Type 0 where
  pub spent : Bool
  pub reading : ℕ
  -- what each sensor showed last, and how long the jobs of each invocation take that are released from now on
  pub shows : List ℤ
  pub takes : List ℕ
  pub world : Content
  pub s_machine : Round

-- the last reading, where the one before the events was r
abbrev pub reading_of : ℕ → List Event → ℕ
reading_of r [] = r
reading_of r (V.At t ∷ es) = reading_of t es
reading_of r (V.Sense c x ∷ es) = reading_of r es
reading_of r (V.Took i n ∷ es) = reading_of r es
reading_of r (V.End t ∷ es) = reading_of r es

-- the values and lengths of these events are read at `now` or later, where the last reading before them is r
abbrev pub AreReadFrom : ℕ → ℕ → List Event → Type 0
AreReadFrom now r [] = Unit {0}
AreReadFrom now r (V.At to ∷ es) = AreReadFrom now to es
AreReadFrom now r (V.Sense c x ∷ es) = (now ≤ r) × AreReadFrom now r es
AreReadFrom now r (V.Took i n ∷ es) = (now ≤ r) × AreReadFrom now r es
AreReadFrom now r (V.End to ∷ es) = AreReadFrom now r es

-- ---- the machine

-- what calls told it: it isn't spent, and keeps the last reading, what each sensor showed last, and how long the jobs of each
-- invocation take that are released from now on
pub record IsKept (t : Tables) (es : List Event) (m : RunState) : Type 0 where
  pub fresh : m.spent ≡ false
  pub reading : m.reading ≡ reading_of 0 es
  pub within : AreTookWithin t es
  pub fits : HasValues t m.shows
  pub shows : (c u : ℕ) → c < length t.comms → reading_of 0 es ≤ u → sense t es c u ≡ get_or m.shows c (pos 0)
  pub takes : (i u : ℕ) → i < length t.invs → reading_of 0 es ≤ u → took t es i u ≡ get_or m.takes i 0
  pub count : length m.takes ≡ length t.invs

-- values, buffers, modes and triggers before an instant, where these jobs of the present rounds are finished
pub record IsValued (t : Tables) (code : ECode) (es : List Event) (now : ℕ) (finished : ℕ → Bool) (w : Content) (m : Standing) (e : ℕ) : Type 0 where
  pub values : ValuesFollow t es now finished w
  pub shaped : IsShaped t w
  pub triggers : machines.FollowsCode t code es now m
  pub safe : StandsSafely t code m
  pub count : e ≡ e_done t code es now

-- tables in range that keep the form rules, with lists that are accepted for all paths
pub record IsLoaded (t : Tables) (schedules : List (List SInstr)) : Type 0 where
  pub range : AreInRange t
  pub kept : KeptApart t 12
  pub rules : KeptApart t 16
  pub feasible : AreFeasible t schedules

-- ---- what the calls of a machine do to what it keeps

abbrev pub at_reading : ℕ → RunState → RunState
at_reading to m = record m { reading = to }

abbrev pub shown_as : ℕ → ℤ → RunState → RunState
shown_as c x m = record m { shows = set m.shows c x }

abbrev pub with_length : Round → ℕ → ℕ → Round
with_length r p n =
    record r { lengths = set r.lengths p n; first = record r.first { left = set r.first.left p n }; point = record r.point { left = set r.point.left p n } }

abbrev pub set_pending : PosState → Round → ℕ → ℕ → Round
set_pending Pending r p n = with_length r p n
set_pending _ r p n = r

-- a pending job of the invocation takes so long
abbrev pub s_machine_taking : ℕ → ℕ → Round → Round
s_machine_taking i n r = elim (position_from 0 r.jobs i) [ Some p ↦ set_pending (state_of r p) r p n | None ↦ r ]

abbrev pub taken_as : ℕ → ℕ → RunState → RunState
taken_as i n m = record m { takes = set m.takes i n; s_machine = s_machine_taking i n m.s_machine }
