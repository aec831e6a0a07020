-- The j lines of a run's text are the slices of its own log, in order.
use Rattle.std.proofs.Common.{◌≡◌, ℕ, zero, suc, ◌+◌, ◌*◌, Bool, true, false, cond, ◌||◌, eqb, ltb, List, [], ◌∷◌, ◌++◌, map, slice_get, Option, Some, None, option_map, refl, sym, ap, ap₂, ◌∙◌}
use Rattle.htl_audit.proofs.Words.{filter, append-nil, Event, hyper, node, all_some, joined, up_to, Tables, up_to_same, Job, SInstr, Leg, list_point, walks_from, Left, Point, first_point, last_point, walk_from, RunningList, lists_from, lists_at, left_in, begun_before, frame_modes, path_of, frame_at, rounds_before, shifted, RunLine, printed, is_job_line, begins_as_job, text_lines, closed_slice_line, RunRecord, record_of, as_told, lists_records, old_records, job_lines, job_lines_of, job_lines_at, job_lines_to, SliceLine, DoneLine, InstrLine, ChangeLine, StepLine, TotalsLine, schedules_of, text_of, inv_at, begins_silent, run_shows, jobs_are_found, not_some, Slice, own_slice, own_of, own_at, own_log, line_slice, begins_as_slice, slice_text, OwnLogIsPrinted, OwnLogIsFound}
use Rattle.htl_runs.proofs.lines.Joined.{joined-up_to, joined-maps}
use Rattle.htl_audit.proofs.ClosedSlices.{runs_at, mine, onto, closed, told, at_now, closed_is}

-- ---- the values that a function gives

some_both : {A B : Type 0} (f : A → Option B) (xs ys : List A) → all_some f (xs ++ ys) ≡ all_some f xs ++ all_some f ys
some_both f [] ys = refl
some_both {A} {B} f (x ∷ xs) ys = by (f x) (some_both f xs ys)
  where
    by : (o : Option B) → all_some f (xs ++ ys) ≡ all_some f xs ++ all_some f ys
        → elim o as (λ _. List B) [ Some y ↦ y ∷ all_some f (xs ++ ys) | None ↦ all_some f (xs ++ ys) ] ≡ elim o as (λ _. List B) [ Some y ↦ y ∷ all_some f xs | None ↦ all_some f xs ] ++ all_some f ys
    by (Some y) next = ap (λ zs. y ∷ zs) next
    by None next = next

some_up_to : {A B : Type 0} (f : A → Option B) (g : ℕ → List A) (n : ℕ) → all_some f (up_to g n) ≡ up_to (λ k. all_some f (g k)) n
some_up_to f g zero = refl
some_up_to f g (suc n) = some_both f (up_to g n) (g n) ∙ ap (λ zs. zs ++ all_some f (g n)) (some_up_to f g n)

-- ---- the lines of records

-- a record that has a slice is of a position
abbrev HasPosition : Left → Type 0
HasPosition l = (u : ℕ × ℕ) → l.slice ≡ Some u → (p : ℕ) × (l.position ≡ Some p)

record_lines : (jobs : List Job) (s k : ℕ) (l : Left) → HasPosition l → (rest : List Slice) → all_some line_slice (job_lines_of jobs (k, shifted s l)) ++ rest ≡ onto (mine jobs s l.position l.slice) rest
record_lines jobs s k l has rest = by l.position l.slice l.finished has
  where
    by : (o : Option ℕ) (sl : Option (ℕ × ℕ)) (b : Bool) → ((u : ℕ × ℕ) → sl ≡ Some u → (p : ℕ) × (o ≡ Some p))
        → all_some line_slice (closed_slice_line (inv_at jobs o) (option_map (λ (u : ℕ × ℕ). (s + u.0, s + u.1)) sl) ++ cond b (DoneLine (s + l.at) (inv_at jobs o) ∷ []) []) ++ rest ≡ onto (mine jobs s o sl) rest
    by None None true has = refl
    by None None false has = refl
    by None (Some u) b has = not_some (has u refl).0 (has u refl).1
    by (Some p) None true has = refl
    by (Some p) None false has = refl
    by (Some p) (Some u) true has = refl
    by (Some p) (Some u) false has = refl

list_lines : (jobs : List Job) (s now k : ℕ) (ls : List Left) → ((i : ℕ) (l : Left) → slice_get ls i ≡ Some l → HasPosition l)
    → all_some line_slice (joined (job_lines_of jobs) (filter (at_now now) (told s k ls))) ≡ closed jobs s now ls
list_lines jobs s now k [] has = refl
list_lines jobs s now k (l ∷ ls) has = by (eqb (s + l.at) now) (list_lines jobs s now (suc k) ls (λ i m at. has (suc i) m at))
  where
    by : (b : Bool) → all_some line_slice (joined (job_lines_of jobs) (filter (at_now now) (told s (suc k) ls))) ≡ closed jobs s now ls
        → all_some line_slice (joined (job_lines_of jobs) (cond b ((k, shifted s l) ∷ filter (at_now now) (told s (suc k) ls)) (filter (at_now now) (told s (suc k) ls))))
        ≡ cond b (onto (mine jobs s l.position l.slice) (closed jobs s now ls)) (closed jobs s now ls)
    by false next = next
    by true next =
        some_both line_slice (job_lines_of jobs (k, shifted s l)) (joined (job_lines_of jobs) (filter (at_now now) (told s (suc k) ls)))
        ∙ ap (λ zs. all_some line_slice (job_lines_of jobs (k, shifted s l)) ++ zs) next
        ∙ record_lines jobs s k l (has 0 l refl) (closed jobs s now ls)

-- ---- the lines of a run

some_joined : {A B C : Type 0} (f : A → Option B) (g : C → List A) (xs : List C) → all_some f (joined g xs) ≡ joined (λ x. all_some f (g x)) xs
some_joined f g [] = refl
some_joined f g (x ∷ xs) = some_both f (g x) (joined g xs) ∙ ap (λ zs. all_some f (g x) ++ zs) (some_joined f g xs)

-- of the lists of a frame that began before
lists_lines : (number : ℕ → ℕ) (f now j : ℕ) (all jobs : List Job) (ss : List (List SInstr)) (gs : List Leg) (x : Point)
    → joined (λ r. all_some line_slice (joined (job_lines_of all) (left_in now f r))) (filter (begun_before now) (lists_from number f j ss gs (walks_from jobs ss gs x)))
    ≡ joined (λ r. all_some (own_slice all) (left_in now f r)) (filter (begun_before now) (lists_from number f j ss gs (walks_from jobs ss gs x)))
lists_lines number f now j all jobs [] gs x = refl
lists_lines number f now j all jobs (s ∷ ss) [] x = refl
lists_lines number f now j all jobs (s ∷ ss) (g ∷ gs) x = by (ltb (f + g.from) now) (lists_lines number f now (suc j) all jobs ss gs (last_point jobs s start))
  where
    start : Point
    start = list_point g.from x

    r : RunningList
    r = record { from = f + g.from; node = number j; code = s; walk = walk_from jobs s start }

    rest : List RunningList
    rest = filter (begun_before now) (lists_from number f (suc j) ss gs (walks_from jobs ss gs (last_point jobs s start)))

    here : all_some line_slice (joined (job_lines_of all) (left_in now f r)) ≡ all_some (own_slice all) (left_in now f r)
    here =
        list_lines all f now 0 (walk_from jobs s start) (λ i l at u has. let w = runs_at jobs s start (λ p. Unit {0}) (λ p more. tt) i l u at has in (w.position, w.of))
        ∙ sym (closed_is all f now 0 (walk_from jobs s start))

    by : (b : Bool) → joined (λ r. all_some line_slice (joined (job_lines_of all) (left_in now f r))) rest ≡ joined (λ r. all_some (own_slice all) (left_in now f r)) rest
        → joined (λ r. all_some line_slice (joined (job_lines_of all) (left_in now f r))) (cond b (r ∷ rest) rest) ≡ joined (λ r. all_some (own_slice all) (left_in now f r)) (cond b (r ∷ rest) rest)
    by true next = ap₂ (λ xs ys. xs ++ ys) here next
    by false next = next

module _ (t : Tables) (lists : List (List SInstr)) (es : List Event) where
  frame_lines : (f now : ℕ) → all_some line_slice (joined job_lines (lists_records t lists es (begun_before now) now f)) ≡ own_of t lists es f now
  frame_lines f now =
      let p = frame_at t lists es f in
      let running = filter (begun_before now) (lists_at t lists es f) in
      ap (all_some line_slice) (joined-maps job_lines (λ r l. record_of p.jobs r.node r.code (as_told l)) (left_in now f) running)
      ∙ some_joined line_slice (λ r. joined (job_lines_of p.jobs) (left_in now f r)) running
      ∙ lists_lines (node t (path_of t (frame_modes t es f))) f now 0 p.jobs p.jobs p.lists p.legs (first_point p.jobs p.lengths)

  instant_lines : (o : Option ℕ) (now : ℕ) → all_some line_slice (job_lines_at t lists es o now) ≡ own_at t lists es o now
  instant_lines None now = refl
  instant_lines (Some h) now =
      let running : ℕ → List RunRecord = λ k. lists_records t lists es (begun_before now) now (k * h) in
      let old = joined job_lines (old_records t lists es (Some h) now) in
      ap (λ zs. all_some line_slice (old ++ zs)) (begins_silent t lists es (Some h) now)
      ∙ ap (all_some line_slice) (append-nil old ∙ joined-up_to job_lines running (rounds_before h now))
      ∙ some_up_to line_slice (λ k. joined job_lines (running k)) (rounds_before h now)
      ∙ up_to_same (λ k. all_some line_slice (joined job_lines (running k))) (λ k. own_of t lists es (k * h) now) (rounds_before h now) (λ k less. frame_lines (k * h) now)

  pub own_lines : (end : ℕ) → all_some line_slice (job_lines_to t lists es end) ≡ own_log t lists es end
  own_lines end =
      some_up_to line_slice (job_lines_at t lists es (hyper t)) (suc end)
      ∙ up_to_same (λ now. all_some line_slice (job_lines_at t lists es (hyper t) now)) (own_at t lists es (hyper t)) (suc end) (λ now less. instant_lines (hyper t) now)

-- the other lines have no slice
of_jobs : (ls : List RunLine) → all_some line_slice (filter is_job_line ls) ≡ all_some line_slice ls
of_jobs [] = refl
of_jobs (SliceLine from to i ∷ ls) = ap (λ zs. record { from = from; to = to; inv = i } ∷ zs) (of_jobs ls)
of_jobs (DoneLine at i ∷ ls) = of_jobs ls
of_jobs (InstrLine at address x ∷ ls) = of_jobs ls
of_jobs (ChangeLine x ∷ ls) = of_jobs ls
of_jobs (StepLine at selection place x ∷ ls) = of_jobs ls
of_jobs (TotalsLine at jobs e s ∷ ls) = of_jobs ls

pub own_log_is_printed : OwnLogIsPrinted
own_log_is_printed o es show end shows =
    let jobs = run_shows o.tables (schedules_of o) es o.ecode show shows end in
    record { lines = jobs.lines; whole = jobs.whole; of_log = sym (of_jobs jobs.lines) ∙ ap (all_some line_slice) jobs.of_jobs ∙ own_lines o.tables (schedules_of o) es end }

-- ---- the lines that begin with `j`

filter_twice : {A : Type 0} (p q : A → Bool) → ((x : A) → p x ≡ true → q x ≡ true) → (xs : List A) → filter p (filter q xs) ≡ filter p xs
filter_twice p q more [] = refl
filter_twice {A} p q more (x ∷ xs) = by (q x) (p x) refl refl (filter_twice p q more xs)
  where
    by : (b c : Bool) → q x ≡ b → p x ≡ c → filter p (filter q xs) ≡ filter p xs → filter p (cond b (x ∷ filter q xs) (filter q xs)) ≡ cond c (x ∷ filter p xs) (filter p xs)
    by true true e f next = ap (λ d. cond d (x ∷ filter p (filter q xs)) (filter p (filter q xs))) f ∙ ap (λ zs. x ∷ zs) next
    by true false e f next = ap (λ d. cond d (x ∷ filter p (filter q xs)) (filter p (filter q xs))) f ∙ next
    by false true e f next = let z : false ≡ true = sym e ∙ more x f in absurd (let y : ⊥ = cc in y)
    by false false e f next = next

slices_begin : (line : List ℕ) → begins_as_slice line ≡ true → begins_as_job line ≡ true
slices_begin [] e = e
slices_begin (b ∷ bs) e = ap (λ (c : Bool). c || eqb b 100) e

slice_lines : (t : Tables) (ls : List RunLine) → filter begins_as_slice (map (printed t) (filter is_job_line ls)) ≡ map (slice_text t) (all_some line_slice ls)
slice_lines t [] = refl
slice_lines t (SliceLine from to i ∷ ls) = ap (λ zs. printed t (SliceLine from to i) ∷ zs) (slice_lines t ls)
slice_lines t (DoneLine at i ∷ ls) = slice_lines t ls
slice_lines t (InstrLine at address x ∷ ls) = slice_lines t ls
slice_lines t (ChangeLine x ∷ ls) = slice_lines t ls
slice_lines t (StepLine at selection place x ∷ ls) = slice_lines t ls
slice_lines t (TotalsLine at jobs e s ∷ ls) = slice_lines t ls

pub own_log_is_found : OwnLogIsFound
own_log_is_found o es show end names shows =
    let jobs = run_shows o.tables (schedules_of o) es o.ecode show shows end in
    sym (filter_twice begins_as_slice begins_as_job slices_begin (text_lines (text_of o es show end)))
    ∙ ap (filter begins_as_slice) (jobs_are_found o.tables names (text_of o es show end) (job_lines_to o.tables (schedules_of o) es end) jobs ∙ ap (map (printed o.tables)) (sym jobs.of_jobs))
    ∙ slice_lines o.tables jobs.lines
    ∙ ap (map (slice_text o.tables)) (sym (of_jobs jobs.lines) ∙ ap (all_some line_slice) jobs.of_jobs ∙ own_lines o.tables (schedules_of o) es end)
