-- What contracts see of an auditor, what it follows, and its verdict.
use Rattle.std.specs.Prelude.{◌≡◌, ◌≤◌, ◌<◌, ◌⊎◌, ◌+◌, ℕ, suc, true, false, List, [], ◌∷◌, ◌++◌, length, get_or, min, Option, Some, None, All, Ok, Err}
use Rattle.htl_model.specs.{declared.event.Event.Event, Frames.root_periods, Frames.begins, Tables.Tables}
use Rattle.htl_console.specs.declared.shown.Shown.TheVariants.{Values}
use Rattle.htl_machine.specs.Calls as machines
use Rattle.htl_machine.specs.Calls.{text_between}
use Rattle.htl_edge.specs.Content.{Puts}
use Rattle.std.specs.declared.result.Result.{Result}
use Rattle.htl_model.specs.declared.event.Event.TheVariants as V
use Rattle.htl_object.specs.declared.object.Object.{Object}
use Rattle.htl_refine.specs.Records.{took, AreTookWithin}
use Rattle.htl_audit.specs.{declared.slice.Slice.Slice, Jobs.all_rounds, Feeders.all_feeders, Keeping.Kept, Keeping.has_job, Keeping.sum_at, Keeping.length_at, Keeping.start_at, Keeping.end_at, Rosters.IsSized}
use Rattle.htl_audit.specs.Verdicts.{LogFollows, LogEnds}

pub record Audit : Type 0 where
  -- values, modes and buffers are those of this machine
  pub machine : machines.Seen
  pub log : List Slice
  -- how long the jobs of each invocation take that are released from now on
  pub takes : List ℕ
  pub kept : Kept

-- the log before an instant
abbrev pub IsLogUpTo : Audit → List Event → ℕ → Type 0
IsLogUpTo a es now = LogFollows a.machine.object.tables (all_rounds a.machine.object.tables es now) now a.log a.kept

-- an auditor follows events: its machine does, it keeps how long jobs take, and the lines are judged that end before the last reading,
-- up to the first fault
pub record AuditFollows (a : Audit) (es : List Event) : Type 0 where
  pub machine : machines.Follows a.machine es
  pub shown : a.machine.show ≡ Values
  pub takes : (i u : ℕ) → i < length a.machine.object.tables.invs → a.machine.run_state.reading ≤ u → took a.machine.object.tables es i u ≡ get_or a.takes i 0
  pub log : IsLogUpTo a es a.machine.run_state.reading

-- the run ended at `to`: values are those of the meaning there, and the lines are judged that end by then
pub record IsAudited (a : Audit) (es : List Event) (to : ℕ) : Type 0 where
  pub machine : machines.IsFinished a.machine es to
  pub log : LogEnds (all_rounds a.machine.object.tables es (suc to)) (suc to) a.log a.kept

-- what holds of all that an auditor keeps
pub record IsAuditor (o : Object) (m : machines.Seen) (takes : List ℕ) (log : List Slice) (k : Kept) : Type 0 where
  pub object : m.object ≡ o
  pub rows : length k.roster.stands ≡ length o.tables.invs
  pub starts : length k.roster.starts ≡ length o.tables.invs
  pub lengths : length k.roster.lengths ≡ length o.tables.invs
  pub sums : length k.sums ≡ length o.tables.invs
  pub count : length takes ≡ length o.tables.invs
  pub small : (i : ℕ) → get_or takes i 0 ≤ 1000000
  pub lines : All (λ (x : Slice). x.inv < length o.tables.invs) log
  pub place : k.place ≤ length log

-- no window ends before `due` of a job that has fewer ticks than it takes, unless it is noted that one fell short
abbrev pub AreDue : Tables → ℕ → Kept → Type 0
AreDue t due k = (i : ℕ) → has_job k.roster i ≡ true → (due ≤ start_at k.roster i + end_at t i) ⊎ (sum_at k.sums i < length_at k.roster i → k.short ≡ true)

-- what an auditor knows beside: who feeds whom, and from when on a job may fall short
pub record IsAware (t : Tables) (feeders : List (List ℕ)) (due : ℕ) (k : Kept) : Type 0 where
  pub feeders_are : feeders ≡ all_feeders t
  pub due_is : AreDue t due k

-- the first multiple of one of these periods from an instant on; none without periods
abbrev pub IsNextIn : List ℕ → ℕ → Option ℕ → Type 0
IsNextIn ps at None = (n : ℕ) → begins ps n ≡ false
IsNextIn ps at (Some s) = (at ≤ s) × (begins ps s ≡ true) × ((n : ℕ) → at ≤ n → n < s → begins ps n ≡ false)

-- the first start of rounds from an instant on; none without modules
abbrev pub IsNextStart : Tables → ℕ → Option ℕ → Type 0
IsNextStart t at o = IsNextIn (root_periods t) at o

-- the sooner of two instants, of which there may be only the second
abbrev pub sooner : Option ℕ → ℕ → ℕ
sooner None m = m
sooner (Some n) m = min n m

-- all before the reading of the machine is done, which was told these events and that reading
pub record IsStopped (a : Audit) (es : List Event) : Type 0 where
  pub machine : machines.Follows a.machine (es ++ V.At a.machine.run_state.reading ∷ [])
  pub within : AreTookWithin a.machine.object.tables es
  pub shown : a.machine.show ≡ Values
  pub takes : (i u : ℕ) → i < length a.machine.object.tables.invs → a.machine.run_state.reading ≤ u → took a.machine.object.tables es i u ≡ get_or a.takes i 0
  pub log : IsLogUpTo a es a.machine.run_state.reading

-- no call changes the object, what is shown and the log
pub record IsSameAudit (old new : Audit) : Type 0 where
  pub run : machines.IsSameRun old.machine new.machine
  pub log : new.log ≡ old.log

-- what is kept has an entry for each invocation
abbrev pub AreSized : Audit → Type 0
AreSized a = IsSized (length a.machine.object.tables.invs) a.kept

-- a call that goes on to `to` wrote the text up to where it stands, or a prefix of the whole
abbrev pub IsGone : {T E : Type 0} → Audit → Audit → List Event → ℕ → Option (List ℕ) → Option (List ℕ) → ℕ → ℕ → Result T E → Type 0
IsGone {T} {E} old new es to w w1 f f1 (Ok x) = Puts {T = T} {E = E} w w1 f f1 (text_between old.machine.object es Values old.machine.run_state.reading new.machine.run_state.reading) (Ok x)
IsGone {T} {E} old new es to w w1 f f1 (Err x) = Puts {T = T} {E = E} w w1 f f1 (text_between old.machine.object es Values old.machine.run_state.reading to) (Err x)

-- no round begins from the reading on before `to`
abbrev pub AreNone : Audit → ℕ → Type 0
AreNone a to = (n : ℕ) → a.machine.run_state.reading ≤ n → n < to → begins (root_periods a.machine.object.tables) n ≡ false
