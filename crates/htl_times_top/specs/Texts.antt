-- The lines of the latest finishes of an object.
use Rattle.std.specs.Prelude.{ℕ, ◌-◌, List, [], ◌++◌, get_or, Option, Some, None, codes, decimal}
use Rattle.htl_console.specs.{Listing.all_lines, Names.inv_name}
use Rattle.htl_model.specs.{Frames.frame_of, Frames.paths, Tables.Tables, Tables.release, Tables.task_worst, Tables.window_end, declared.parts.Inv.Inv}
use Rattle.htl_times.specs.{Roots.root_of, declared.greatest.Greatest.Greatest}

-- `time NAME worst W window R E`, with which the line of each invocation begins
abbrev pub time_front : Tables → ℕ → Inv → List ℕ
time_front t i x =
    codes "time " ++ inv_name t i ++ codes " worst " ++ decimal (task_worst t x.task) ++ codes " window " ++ decimal (release t x) ++ codes " "
    ++ decimal (window_end t x)

-- ` done D left L path P`: the latest finish, from there to the window's end, and the first path where it is; nothing where no path has a
-- job of the invocation
abbrev pub done_end : ℕ → Option Greatest → List ℕ
done_end end (Some l) = codes " done " ++ decimal l.ticks ++ codes " left " ++ decimal (end - l.ticks) ++ codes " path " ++ decimal l.path ++ codes "\n"
done_end end None = codes "\n"

-- ` within NAME`: the root invocation in whose place an invocation can stand
abbrev pub within_end : Tables → ℕ → List ℕ
within_end t i = codes " within " ++ elim (root_of t i) [ Some r ↦ inv_name t r | None ↦ [] ] ++ codes "\n"

-- the one of a root module, where there is no parent, the other of any other
abbrev pub end_of : Tables → ℕ → Inv → Option Greatest → List ℕ
end_of t i x row = elim x.parent [ Some p ↦ within_end t i | None ↦ done_end (window_end t x) row ]

abbrev pub time_line : Tables → Option Greatest → ℕ → Inv → List ℕ
time_line t row i x = time_front t i x ++ end_of t i x row

-- `frame F paths P busy B path Q`: the length of a frame, how many paths it has, and the busiest of them
abbrev pub frame_line : ℕ → ℕ → Greatest → List ℕ
frame_line ticks paths b =
    codes "frame " ++ decimal ticks ++ codes " paths " ++ decimal paths ++ codes " busy " ++ decimal b.ticks ++ codes " path " ++ decimal b.path
    ++ codes "\n"

-- zeros where there is no path
abbrev pub frame_text : Tables → Option Greatest → List ℕ
frame_text t (Some b) = frame_line (frame_of t) (paths t) b
frame_text t None = frame_line 0 0 (record { ticks = 0; path = 0 })

-- a line for each invocation, by its row, and that of the frame
abbrev pub times_text : Tables → List (Option Greatest) → Option Greatest → List ℕ
times_text t rows busiest = all_lines (λ i x. time_line t (get_or rows i None) i x) t.invs ++ frame_text t busiest
