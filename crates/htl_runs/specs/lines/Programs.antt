-- What an object tells of its runs.
use Rattle.htl_runs.specs.{Common.ℕ, Common.List, Common.map, Common.Event, Common.Object, Common.SInstr, Common.Schedule, Common.Shown, lines.Lines.lines, lines.Lines.text_before, lines.Lines.run_text}

-- the instructions of its schedules, by node
abbrev pub schedules_of : Object → List (List SInstr)
schedules_of o = map (λ (s : Schedule). s.instrs) o.schedules

-- the shown lines of an instant
abbrev pub lines_of : Object → List Event → Shown → ℕ → List ℕ
lines_of o es show now = lines o.tables o.ecode (schedules_of o) es show now

-- the shown lines of the instants before `now`
abbrev pub before_of : Object → List Event → Shown → ℕ → List ℕ
before_of o es show now = text_before o.tables o.ecode (schedules_of o) es show now

-- the shown lines of the instants 0 to `end`, and the totals line
abbrev pub text_of : Object → List Event → Shown → ℕ → List ℕ
text_of o es show end = run_text o.tables o.ecode (schedules_of o) es show end
