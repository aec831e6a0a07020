-- A run's text is printed line by line, and its j and d lines are those of its records.
use Rattle.std.proofs.Common.{◌≡◌, ℕ, zero, suc, ◌+◌, ◌*◌, ◌/◌, Bool, true, false, cond, eqb, List, [], ◌∷◌, ◌++◌, map, slice_get, Option, Some, None, option_map, refl, sym, ap, ap₂, ◌∙◌, subst, arith}
use Rattle.htl_runs.proofs.Words.{filter, eqb-true, append-nil, filter-append, Event, Line, line_text, lines_text, joined, numbered, up_to, value_lines, hyper, node, Tables, SInstr, Job, Leg, walks_from, Left, Point, first_point, last_point, walk_from, ECode, EInstr, Done, e_path, RunningList, lists_from, lists_at, left_in, begins_at, frame_modes, path_of, frame_at, shifted, Shown, Jobs, instr_line, shows_values, shows_jobs, shows_code, RunRecord, record_of, inv_at, as_told, old_records, new_records, e_line, old_lines, new_lines, e_lines, change_lines, lines, jobs_done, e_done, s_done, text_before, run_text, RunLine, printed, is_job_line, begins_as_job, text_lines, HasNames, closed_slice_line, job_done_line, job_lines, step_lines, record_lines, record_text, job_lines_at, job_lines_to, ShowsJobs, InstrLine, ChangeLine, StepLine, TotalsLine}
use Rattle.htl_walk.specs.Paths as paths
use Rattle.htl_runs.proofs.{lines.LineBytes.lines_found, lines.LineBytes.jobs_found, lines.Joined.joined-append, lines.Joined.joined-maps, lines.StandingRecords.silent_at}

-- the job lines of a record of a list with these jobs, wherever the list is
abbrev pub job_lines_of : List Job → ℕ × Left → List RunLine
job_lines_of jobs l = job_lines (record_of jobs 0 [] (as_told l))

module _ (t : Tables) where
  -- ---- how texts are put together

  none : ShowsJobs t [] []
  none = record { lines = []; whole = refl; of_jobs = refl }

  one : (l : RunLine) → ShowsJobs t (printed t l) (filter is_job_line (l ∷ []))
  one l = record { lines = l ∷ []; whole = sym (append-nil (printed t l)); of_jobs = refl }

  both : (a b : List ℕ) (x y : List RunLine) → ShowsJobs t a x → ShowsJobs t b y → ShowsJobs t (a ++ b) (x ++ y)
  both a b x y p q =
      record {
        lines = p.lines ++ q.lines;
        whole = ap₂ (λ (u v : List ℕ). u ++ v) p.whole q.whole ∙ sym (joined-append (printed t) p.lines q.lines);
        of_jobs = filter-append is_job_line p.lines q.lines ∙ ap₂ (λ (u v : List RunLine). u ++ v) p.of_jobs q.of_jobs;
      }

  -- what follows has no job lines
  before_others : (a b : List ℕ) (x : List RunLine) → ShowsJobs t a x → ShowsJobs t b [] → ShowsJobs t (a ++ b) x
  before_others a b x p q = subst (λ z. ShowsJobs t (a ++ b) z) (append-nil x) (both a b x [] p q)

  others_shown : (b : Bool) (a : List ℕ) → ShowsJobs t a [] → ShowsJobs t (cond b a []) []
  others_shown true a p = p
  others_shown false a p = none

  all_of : {A : Type 0} (f : A → List ℕ) (g : A → List RunLine) → ((x : A) → ShowsJobs t (f x) (g x)) → (xs : List A) → ShowsJobs t (joined f xs) (joined g xs)
  all_of f g each [] = none
  all_of f g each (x ∷ xs) = both (f x) (joined f xs) (g x) (joined g xs) (each x) (all_of f g each xs)

  all_others : {A : Type 0} (f : A → List ℕ) → ((x : A) → ShowsJobs t (f x) []) → (xs : List A) → ShowsJobs t (joined f xs) []
  all_others f each [] = none
  all_others f each (x ∷ xs) = both (f x) (joined f xs) [] [] (each x) (all_others f each xs)

  all_to : (f : ℕ → List ℕ) (g : ℕ → List RunLine) → ((k : ℕ) → ShowsJobs t (f k) (g k)) → (n : ℕ) → ShowsJobs t (up_to f n) (up_to g n)
  all_to f g each zero = none
  all_to f g each (suc n) = both (up_to f n) (f n) (up_to g n) (g n) (all_to f g each n) (each n)

  -- ---- the lines of records

  slice_alone : (i : ℕ) (s : Option (ℕ × ℕ)) → filter is_job_line (closed_slice_line i s) ≡ closed_slice_line i s
  slice_alone i (Some s) = refl
  slice_alone i None = refl

  done_alone : (at i : ℕ) (b : Bool) → filter is_job_line (job_done_line at b i) ≡ job_done_line at b i
  done_alone at i true = refl
  done_alone at i false = refl

  no_step : (x : RunRecord) (c : Bool) (o : Option SInstr) → filter is_job_line (cond c (elim o as (λ _. List RunLine) [ Some i ↦ StepLine x.left.at x.node x.left.instr i ∷ [] | None ↦ [] ]) []) ≡ []
  no_step x true (Some i) = refl
  no_step x true None = refl
  no_step x false o = refl

  record_shows : (show : Shown) → shows_jobs show ≡ true → (x : RunRecord) → ShowsJobs t (record_text t show x) (job_lines x)
  record_shows show jobs x =
      record {
        lines = record_lines show x;
        whole = refl;
        of_jobs =
            ap (λ b. filter is_job_line (cond b (job_lines x) [] ++ cond (shows_code show) (step_lines x) [])) jobs
            ∙ filter-append is_job_line (job_lines x) (cond (shows_code show) (step_lines x) [])
            ∙ ap₂ (λ (u v : List RunLine). u ++ v)
            (filter-append is_job_line (closed_slice_line x.inv x.left.slice) (job_done_line x.left.at x.left.finished x.inv)
            ∙ ap₂ (λ (u v : List RunLine). u ++ v) (slice_alone x.inv x.left.slice) (done_alone x.left.at x.inv x.left.finished)) (no_step x (shows_code show) x.instr)
            ∙ append-nil (job_lines x);
      }

  -- ---- the lines of an instant

  e_shows : (code : ECode) (now : ℕ) (d : Done) → ShowsJobs t (e_line t code now d) []
  e_shows code now d = by (slice_get code.instrs d.address)
    where
      by : (o : Option EInstr) → ShowsJobs t (elim o as (λ _. List ℕ) [ Some i ↦ instr_line t now d.address i | None ↦ [] ]) []
      by (Some i) = one (InstrLine now d.address i)
      by None = none

  changes_show : (ls : List Line) → ShowsJobs t (lines_text t ls) []
  changes_show [] = none
  changes_show (l ∷ ls) = both (line_text t l) (lines_text t ls) [] [] (one (ChangeLine l)) (changes_show ls)

  -- a record that is left as its list begins has no job lines
  no_lines : (jobs : List Job) (start k : ℕ) (l : Left) → (l.slice ≡ None) × (l.finished ≡ false) → job_lines_of jobs (k, shifted start l) ≡ []
  no_lines jobs start k l silent = grind arith

  pub none_first : (jobs : List Job) (start now k : ℕ) (ls : List Left) → ((i : ℕ) (l : Left) → slice_get ls i ≡ Some l → start + l.at ≡ now → (l.slice ≡ None) × (l.finished ≡ false))
      → joined (job_lines_of jobs) (filter (λ (l : ℕ × Left). eqb l.1.at now) (numbered k (map (shifted start) ls))) ≡ []
  none_first jobs start now k [] silent = refl
  none_first jobs start now k (l ∷ ls) silent = by (eqb (start + l.at) now) refl (none_first jobs start now (suc k) ls (λ i m at. silent (suc i) m at))
    where
      rest : List (ℕ × Left)
      rest = filter (λ (m : ℕ × Left). eqb m.1.at now) (numbered (suc k) (map (shifted start) ls))

      by : (b : Bool) → eqb (start + l.at) now ≡ b → joined (job_lines_of jobs) rest ≡ [] → joined (job_lines_of jobs) (cond b ((k, shifted start l) ∷ rest) rest) ≡ []
      by false e next = next
      by true e next = ap₂ (λ (xs ys : List RunLine). xs ++ ys) (no_lines jobs start k l (silent 0 l refl (eqb-true (start + l.at) now e))) next

  -- so the list that begins has none
  lists_silent : (number : ℕ → ℕ) (f now j : ℕ) (all jobs : List Job) (ss : List (List SInstr)) (gs : List Leg) (x : Point)
      → joined (λ r. joined (job_lines_of all) (left_in now f r)) (filter (begins_at now) (lists_from number f j ss gs (walks_from jobs ss gs x))) ≡ []
  lists_silent number f now j all jobs [] gs x = refl
  lists_silent number f now j all jobs (s ∷ ss) [] x = refl
  lists_silent number f now j all jobs (s ∷ ss) (g ∷ gs) x = by (eqb (f + g.from) now) refl (lists_silent number f now (suc j) all jobs ss gs (last_point jobs s (paths.list_point g.from x)))
    where
      rest : List RunningList
      rest = lists_from number f (suc j) ss gs (walks_from jobs ss gs (last_point jobs s (paths.list_point g.from x)))

      r : RunningList
      r = record { from = f + g.from; node = number j; code = s; walk = walk_from jobs s (paths.list_point g.from x) }

      by : (b : Bool) → eqb (f + g.from) now ≡ b → joined (λ r. joined (job_lines_of all) (left_in now f r)) (filter (begins_at now) rest) ≡ []
          → joined (λ r. joined (job_lines_of all) (left_in now f r)) (cond b (r ∷ filter (begins_at now) rest) (filter (begins_at now) rest)) ≡ []
      by false e next = next
      by true e next =
          let here = eqb-true (f + g.from) now e in
          ap₂ (λ (xs ys : List RunLine). xs ++ ys)
          (none_first all f now 0 (walk_from jobs s (paths.list_point g.from x)) (λ i l at same. silent_at jobs s (paths.list_point g.from x) g.from i l (omega arith) at (omega (arith, here, same)))) next

  module _ (schedules : List (List SInstr)) (es : List Event) where
    pub begins_silent : (o : Option ℕ) (now : ℕ) → joined job_lines (new_records t schedules es o now) ≡ []
    begins_silent None now = refl
    begins_silent (Some h) now =
        let f = h * (now / h) in
        let p = frame_at t schedules es f in
        joined-maps job_lines (λ r l. record_of p.jobs r.node r.code (as_told l)) (left_in now f) (filter (begins_at now) (lists_at t schedules es f))
        ∙ lists_silent (node t (path_of t (frame_modes t es f))) f now 0 p.jobs p.jobs p.lists p.legs (first_point p.jobs p.lengths)

    module _ (code : ECode) (show : Shown) (jobs : shows_jobs show ≡ true) where
      instant_by : (o : Option ℕ) (now : ℕ)
          → ShowsJobs t (old_lines t schedules es show o now ++ e_lines t code es show now ++ change_lines t es show now ++ new_lines t schedules es show o now) (job_lines_at t schedules es o now)
      instant_by o now =
          let before = old_lines t schedules es show o now in
          let owed = joined job_lines (old_records t schedules es o now) in
          both (before ++ e_lines t code es show now ++ change_lines t es show now) (new_lines t schedules es show o now) owed (joined job_lines (new_records t schedules es o now))
          (before_others (before ++ e_lines t code es show now) (change_lines t es show now) owed
          (before_others before (e_lines t code es show now) owed (all_of (record_text t show) job_lines (record_shows show jobs) (old_records t schedules es o now))
          (others_shown (shows_code show) _ (all_others (e_line t code now) (e_shows code now) (e_path t code es now))))
          (others_shown (shows_values show) _ (changes_show (value_lines t es now))))
          (all_of (record_text t show) job_lines (record_shows show jobs) (new_records t schedules es o now))

      -- the text of a run
      pub run_shows : (end : ℕ) → ShowsJobs t (run_text t code schedules es show end) (job_lines_to t schedules es end)
      run_shows end =
          before_others (text_before t code schedules es show (suc end)) _ (job_lines_to t schedules es end)
          (all_to (lines t code schedules es show) (job_lines_at t schedules es (hyper t)) (instant_by (hyper t)) (suc end))
          (one (TotalsLine end (jobs_done t schedules es (suc end)) (e_done t code es (suc end)) (s_done t schedules es (suc end))))

-- so a reader finds them
pub jobs_are_found : (t : Tables) → HasNames t → (text : List ℕ) (jobs : List RunLine) → ShowsJobs t text jobs → filter begins_as_job (text_lines text) ≡ map (printed t) jobs
jobs_are_found t names text jobs shown =
    ap (λ (bs : List ℕ). filter begins_as_job (text_lines bs)) shown.whole
    ∙ ap (filter begins_as_job) (lines_found t names shown.lines)
    ∙ jobs_found t names shown.lines
    ∙ ap (map (printed t)) shown.of_jobs

-- ---- where no code is shown, the lines of records are job lines alone

module _ (t : Tables) where
  records_alone : (xs : List RunRecord) → joined (record_text t Jobs) xs ≡ joined (printed t) (joined job_lines xs)
  records_alone [] = refl
  records_alone (x ∷ xs) =
      ap₂ (λ (a b : List ℕ). a ++ b) (ap (joined (printed t)) (append-nil (job_lines x))) (records_alone xs) ∙ sym (joined-append (printed t) (job_lines x) (joined job_lines xs))

  module _ (schedules : List (List SInstr)) (es : List Event) where
    pub old_alone : (o : Option ℕ) (now : ℕ) → old_lines t schedules es Jobs o now ≡ joined (printed t) (job_lines_at t schedules es o now)
    old_alone o now =
        let owed = joined job_lines (old_records t schedules es o now) in
        records_alone (old_records t schedules es o now) ∙ ap (joined (printed t)) (sym (append-nil owed) ∙ ap (λ z. owed ++ z) (sym (begins_silent t schedules es o now)))

    -- of the list that begins there are none
    pub new_alone : (o : Option ℕ) (now : ℕ) → new_lines t schedules es Jobs o now ≡ []
    new_alone o now = records_alone (new_records t schedules es o now) ∙ ap (joined (printed t)) (begins_silent t schedules es o now)
