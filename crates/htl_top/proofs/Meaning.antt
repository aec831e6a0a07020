-- What `go` shows of a source is what its own tables mean.
use Rattle.std.proofs.Common.{◌≡◌, ℕ, List, [], ◌++◌, Option, None, Some, refl, sym, ap, ap₂, ◌∙◌}
use Rattle.htl_top.proofs.Vocabulary.{append-nil, flat_map, built_accepted, coded_runs, built, CanBuild, coded, codes, Jobs, accepted_is_loaded, run_of, new_alone, old_lines, schedules_of, hyper, line_text, lines_text, value_lines, Tables, Event, Line, ValueLine, ModeLine, every_job_in_time, whole-script, script_same, GoShowsTheMeaning, GoKeepsDeadlines}
use mathlib.Core.Path.{fun_ext}
use Rattle.htl_top.proofs.Playing.{took_within}

-- the names in a line are those of the tables, whatever their functions are
pub line_same : (t : Tables) (x : Line) → line_text (coded t) x ≡ line_text t x
line_same t (ValueLine at c x) = refl
line_same t (ModeLine at k (Some m)) = refl
line_same t (ModeLine at k None) = refl

changes_same : (t : Tables) (es : List Event) (now : ℕ) → CanBuild t → lines_text (coded t) (value_lines (coded t) es now) ≡ lines_text t (value_lines t es now)
changes_same t es now can =
    ap (λ (f : Line → List ℕ). flat_map f (value_lines (coded t) es now)) (fun_ext (line_same t))
    ∙ ap (lines_text t) (sym ((coded_runs t can.can.tables.ranges).lines es now))

pub go_shows : GoShowsTheMeaning
go_shows t es now can =
    let old = old_lines (coded t) (schedules_of (built t)) es Jobs (hyper t) now in
    let changes = lines_text (coded t) (value_lines (coded t) es now) in
    ap (λ (bs : List ℕ). ((old ++ []) ++ changes) ++ bs) (new_alone (coded t) (schedules_of (built t)) es (hyper t) now) ∙ append-nil ((old ++ []) ++ changes)
    ∙ ap₂ (λ (a b : List ℕ). a ++ b) (append-nil old) (changes_same t es now can)

pub go_keeps : GoKeepsDeadlines
go_keeps t script events end can whole some =
    let loaded = accepted_is_loaded (built t) (built_accepted None t can) in
    let are = (whole-script (coded t) script events end (sym (script_same t (codes t) script) ∙ whole)).0 in
    every_job_in_time (coded t) (schedules_of (built t)) events end (run_of (coded t) (schedules_of (built t)) loaded events (took_within (coded t) events are) some)
