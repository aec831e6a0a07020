-- The two parts of an instant: records, writes and sensors; switches, reads, what changed, and the first records of a list that begins.
use Rattle.std.specs.Prelude.{◌≡◌, ◌≤◌, ◌-◌, ◌++◌, ℕ, cond, List, [], length, Option, ℤ}
use Rattle.htl_machine.specs.Common.{Result, Puts, Event, joined, lines_text, value_lines, Tables, SInstr, Round, ECode, Content, phase_path, Shown, shows_values, Plan}
use Rattle.htl_smach.specs.declared.left.Left.{Left}
use Rattle.htl_runs.specs.{values.PhaseEffects.replay, records.SMachineStands.SMachineAt, records.DueRecords.due_by, records.RecordSteps.Records, lists.RunLists.turn_at, values.ShownValues.AreShown, lines.RunRecords.some_records}
use Rattle.htl_machine.specs.{declared.tally.Tally.Tally, Counts.with_records, Counts.with_instrs, Doing.path_lines, Printing.plan_text}

-- the lines of the records that are due, wherever the S machine stood, and those of the writes
abbrev pub Opens : {T E : Type 0} → Tables → ECode → List Event → Shown → ℕ → Round → List SInstr → ℕ → Option (List ℕ) → Option (List ℕ) → ℕ → ℕ → Result T E → Type 0
Opens t code es show node old steps at w0 w f0 f result =
    (p : Plan) (s k d : ℕ) → p.schedule ≡ steps → s ≤ at → k ≤ due_by p s at → SMachineAt p s k d old
    → Puts w0 w f0 f (joined (plan_text t show p node) (some_records p s k (due_by p s at - k)) ++ path_lines t code show at (phase_path t code es at 1)) result

-- and they are counted
abbrev pub AreCounted : Tables → ECode → List Event → Round → List SInstr → ℕ → Tally → Tally → Type 0
AreCounted t code es old steps at n0 n =
    (p : Plan) (s k d : ℕ) → p.schedule ≡ steps → s ≤ at → k ≤ due_by p s at → SMachineAt p s k d old
    → n ≡ with_instrs (length (phase_path t code es at 1)) (with_records (some_records p s k (due_by p s at - k)) n0)

-- the world after records, writes and sensors
pub record IsOpened (t : Tables) (code : ECode) (es : List Event) (at : ℕ) (steps : List SInstr) (shows values : List ℤ) (old : Round) (w0 : Content) (now : Round) (w3 : Content) : Type 0 where
  pub w1 : Content
  pub w2 : Content
  pub records : Records t old w0 now w1 steps at
  pub writes : w2 ≡ replay t code (phase_path t code es at 1) w1
  pub sensors : AreShown t shows values at w2 w3

-- where no list runs: the writes and the sensors alone
pub record IsOpenedIdle (t : Tables) (code : ECode) (es : List Event) (at : ℕ) (shows values : List ℤ) (old : Round) (w0 : Content) (n0 : Tally) (now : Round) (w3 : Content) (n : Tally) : Type 0 where
  pub wrote : Content
  pub writes : wrote ≡ replay t code (phase_path t code es at 1) w0
  pub sensors : AreShown t shows values at wrote w3
  pub s_machine : now ≡ old
  pub count : n ≡ with_instrs (length (phase_path t code es at 1)) n0

-- the lines of the reads, and of what changed
abbrev pub reading_text : Tables → ECode → List Event → Shown → ℕ → List ℕ
reading_text t code es show at = path_lines t code show at (phase_path t code es at 3) ++ cond (shows_values show) (lines_text t (value_lines t es at)) []

-- those of the switches before them
abbrev pub closing_text : Tables → ECode → List Event → Shown → ℕ → List ℕ
closing_text t code es show at = path_lines t code show at (phase_path t code es at 2) ++ reading_text t code es show at

-- the first records of the list that begins
abbrev pub first_records : Tables → List (List SInstr) → List Event → ℕ → List Left
first_records t schedules es at = let u = turn_at t schedules es at in some_records u.plan u.frame 0 (due_by u.plan u.frame at)

-- their lines
abbrev pub beginning_text : Tables → List (List SInstr) → List Event → Shown → ℕ → List ℕ
beginning_text t schedules es show at = let u = turn_at t schedules es at in joined (plan_text t show u.plan u.node) (first_records t schedules es at)
