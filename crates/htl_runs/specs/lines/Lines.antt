-- The lines of a run, instant by instant, and its totals.
use Rattle.std.specs.Prelude.{ℕ, suc, ◌-◌, ◌^◌, min, cond, List, [], ◌++◌, length, map, slice_get, count_by, Option, Some, None}
use Rattle.htl_runs.specs.Common.{Event, lines_text, totals_line, joined, up_to, value_lines, hyper, Tables, SInstr, ECode, Done, e_path, Shown, shows_values, shows_code, instr_line}
use Rattle.htl_smach.specs.declared.left.Left.{Left}
use Rattle.htl_runs.specs.{lines.RunRecords.RunRecord, lines.RunRecords.old_records, lines.RunRecords.new_records, lines.RunRecords.instant_records, lines.RunLines.record_text}

-- ---- the lines of an instant

-- j, d and s lines of the records of the lists that began before it
abbrev pub old_lines : Tables → List (List SInstr) → List Event → Shown → Option ℕ → ℕ → List ℕ
old_lines t lists es show o now = joined (record_text t show) (old_records t lists es o now)

-- of the records of the list that begins there, which have s lines alone
abbrev pub new_lines : Tables → List (List SInstr) → List Event → Shown → Option ℕ → ℕ → List ℕ
new_lines t lists es show o now = joined (record_text t show) (new_records t lists es o now)

-- `e AT ADDRESS TEXT`
abbrev pub e_line : Tables → ECode → ℕ → Done → List ℕ
e_line t code now d = elim (slice_get code.instrs d.address) [ Some i ↦ instr_line t now d.address i | None ↦ [] ]

-- e lines of the addresses of the instant's path
abbrev pub e_lines : Tables → ECode → List Event → Shown → ℕ → List ℕ
e_lines t code es show now = cond (shows_code show) (joined (e_line t code now) (e_path t code es now)) []

-- `v AT NAME VALUE` and `m AT NAME MODE`, for each value and mode that changed
abbrev pub change_lines : Tables → List Event → Shown → ℕ → List ℕ
change_lines t es show now = cond (shows_values show) (lines_text t (value_lines t es now)) []

-- the lines of an instant, in order
abbrev pub lines : Tables → ECode → List (List SInstr) → List Event → Shown → ℕ → List ℕ
lines t code lists es show now =
    old_lines t lists es show (hyper t) now
    ++ e_lines t code es show now
    ++ change_lines t es show now
    ++ new_lines t lists es show (hyper t) now

-- ---- totals: each stands once it is at the end of its type

abbrev pub capped : ℕ → ℕ
capped n = min n (2 ^ 64 - 1)

-- the records of an instant, as the S machine tells them
abbrev pub records_at : Tables → List (List SInstr) → List Event → ℕ → List Left
records_at t lists es now = map (λ (x : RunRecord). x.left) (instant_records t lists es now)

-- of the instants before `now`, instant by instant
abbrev pub all_records : Tables → List (List SInstr) → List Event → ℕ → List Left
all_records t lists es now = up_to (records_at t lists es) now

abbrev pub jobs_done : Tables → List (List SInstr) → List Event → ℕ → ℕ
jobs_done t lists es now = capped (count_by (λ (l : Left). l.finished) (all_records t lists es now))

abbrev pub e_done : Tables → ECode → List Event → ℕ → ℕ
e_done t code es now = capped (length (up_to (e_path t code es) now))

abbrev pub s_done : Tables → List (List SInstr) → List Event → ℕ → ℕ
s_done t lists es now = capped (length (all_records t lists es now))

-- ---- the text of a run

-- the shown lines of the instants before `now`
abbrev pub text_before : Tables → ECode → List (List SInstr) → List Event → Shown → ℕ → List ℕ
text_before t code lists es show now = up_to (lines t code lists es show) now

-- the shown lines of the instants 0 to `end`, and the totals line
abbrev pub run_text : Tables → ECode → List (List SInstr) → List Event → Shown → ℕ → List ℕ
run_text t code lists es show end =
    text_before t code lists es show (suc end)
    ++ totals_line end (jobs_done t lists es (suc end)) (e_done t code es (suc end)) (s_done t lists es (suc end))
