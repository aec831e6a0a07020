-- The job lines of a run show each job whose window ended: one d line in time, and j lines in its window for all its ticks.
use Rattle.std.proofs.Common.{◌≡◌, ◌≤◌, ◌<◌, inl, inr, ℕ, suc, ◌+◌, ◌*◌, Bool, true, false, ◌&&◌, eqb, ltb, leb, List, [], ◌∷◌, length, map, slice_get, get_or, Option, Some, None, refl, sym, ap, ap₂, ◌∙◌, subst, arith}
use Rattle.htl_runs.proofs.Words.{flat_map, eqb-true, eqb-false, eq-eqb, lt-ltb, ltb-true, le-leb, leb-true, and_parts, Event, hyper, frame_of, starts, starts_below, root_periods, rounds_at, unit_period, multiple_of, joined, up_to, root_modules, Tables, Job, SInstr, Left, job_at, slices, first_point, AllWithin, work_some, job_there, job_is, derived_jobs, Frame, frame_modes, frame_at, running_places, walk_of, finish, AreTookWithin, IsFeasibleRun, spent, IsServed, path_rises, not_some, frames_are_served, every_job_in_time, IsLoaded, RunLine, job_lines_at, job_lines_to, SliceLine, DoneLine, is_in, done_time, slice_time, job_round, inv_period, IsToldInTime, AllToldInTime, same_Some}
use Rattle.htl_runs.proofs.{jobs.FrameLines.owed, jobs.FrameLines.of_run, jobs.JobRounds.IsPlaced, jobs.JobRounds.is_placed, jobs.JobRounds.only_job, lists.LoadedLists.run_of, lines.RecordTimes.joined_each, lines.RecordTimes.before_now}
use Rattle.htl_runs.proofs.{jobs.OneRecord.Count, jobs.OneRecord.slice_claim, jobs.OneRecord.done_claim, jobs.OneRecord.out_of, jobs.WorkRecords.DoesWork, jobs.WorkRecords.works_in}
use Rattle.htl_runs.proofs.jobs.PositionRecords.{shift, position_slice, position_done, all_slices, shifted_within, shifted_spent, within_at, done_once, first_done}

module _ (t : Tables) (lists : List (List SInstr)) (es : List Event) (run : IsFeasibleRun t lists es) where
  abbrev frame : ℕ → Frame
  frame k = frame_at t lists es (k * frame_of t)

  hyper_is : hyper t ≡ Some (frame_of t)
  hyper_is = grind arith

  -- each job is served, whenever its window ends
  served : (k q : ℕ) (j : Job) → slice_get (frame k).jobs q ≡ Some j → j.present ≡ true → IsServed (frame k).jobs (frame k).lengths (walk_of (frame k)) q j
  served k q j at here = ((every_job_in_time t lists es (k * frame_of t + j.end) run).jobs k q j at here (omega arith)).served

  -- a record that has a slice, or finishes a job, is left in the window of its position
  pub record IsWorking (k : ℕ) (l : Left) : Type 0 where
    pub position : ℕ
    pub of : l.position ≡ Some position
    pub job : Job
    pub at : slice_get (frame k).jobs position ≡ Some job
    pub present : job.present ≡ true
    pub released : job.release < l.at
    pub late : l.at ≤ job.end
    pub ends : (u : ℕ × ℕ) → l.slice ≡ Some u → u.1 ≡ l.at

  pub working : (k i : ℕ) (l : Left) → slice_get (walk_of (frame k)) i ≡ Some l → DoesWork l → IsWorking k l
  working k i l at does =
      let p = frame k in
      let w = works_in p.jobs p.lists p.legs (first_point p.jobs p.lengths) i l at does in
      let here = work_some p.jobs p.lengths w.position w.some in
      let there = job_there p.jobs w.position here in
      record {
        position = w.position;
        of = w.of;
        job = job_at p.jobs w.position;
        at = there;
        present = here;
        released = w.released;
        late = by w.position (job_at p.jobs w.position) w.of (served k w.position (job_at p.jobs w.position) there here) w.ends does;
        ends = w.ends;
      }
    where
      by : (q : ℕ) (j : Job) → l.position ≡ Some q → IsServed (frame k).jobs (frame k).lengths (walk_of (frame k)) q j → ((u : ℕ × ℕ) → l.slice ≡ Some u → u.1 ≡ l.at) → DoesWork l → l.at ≤ j.end
      by q j of v ends (inl u) = let last = within_at j.release j.end q (walk_of (frame k)) i l u.0 v.within at of u.1 in omega (arith, last, ends u.0 u.1)
      by q j of v ends (inr done) =
          let one : l ≡ v.done.0 = same_Some _ _ (sym at ∙ ap (slice_get (walk_of (frame k))) (v.once i l.at (l, at, of, done, refl)) ∙ v.done.1) in
          omega (arith, ap (λ (x : Left). x.at) one, v.done.4, v.in_time)

  module _ (k end q : ℕ) (j : Job) (at : slice_get (frame k).jobs q ≡ Some j) (here : j.present ≡ true) (late : k * frame_of t + j.end ≤ end) where
    abbrev f : ℕ
    f = k * frame_of t

    abbrev start : ℕ
    start = job_round t es f q

    abbrev stop : ℕ
    stop = start + inv_period t j.inv

    abbrev walk : List Left
    walk = walk_of (frame k)

    own : IsPlaced t es k run.range run.kept run.ticks q j
    own = is_placed t es k run.range run.kept run.ticks q j at here

    -- a line of a record of position p counts exactly where p is q
    counts : (i : ℕ) (l : Left) → slice_get walk i ≡ Some l → DoesWork l → Count (frame k).jobs f q (suc end) j.inv start stop l.at l.position
    counts i l is does = by (working k i l is does)
      where
        by : IsWorking k l → Count (frame k).jobs f q (suc end) j.inv start stop l.at l.position
        by w = (w.position, w.of, ap (λ (z : Job). is_in j.inv start stop z.inv (f + l.at)) (job_is (frame k).jobs w.position w.job w.at) ∙ one (eqb w.position q) refl)
          where
            other : (b c : Bool) → eqb w.job.inv j.inv ≡ b → (ltb start (f + l.at) && leb (f + l.at) stop) ≡ c → eqb w.position q ≡ false → (b && c) ≡ false
            other false c e g differ = refl
            other true false e g differ = refl
            other true true e g differ =
                let both = and_parts (ltb start (f + l.at)) (leb (f + l.at) stop) g in
                absurd (eqb-false w.position q differ
                (only_job t es k run.range run.kept run.ticks w.position q w.job j (is_placed t es k run.range run.kept run.ticks w.position w.job w.at w.present) own (eqb-true w.job.inv j.inv e) (f + l.at)
                (omega (arith, w.released)) (omega (arith, w.late)) (ltb-true start (f + l.at) both.0) (leb-true (f + l.at) stop both.1)))

            one : (b : Bool) → eqb w.position q ≡ b → is_in j.inv start stop w.job.inv (f + l.at) ≡ b
            one true e =
                let same : w.job ≡ j = same_Some _ _ (sym w.at ∙ ap (slice_get (frame k).jobs) (eqb-true w.position q e) ∙ at) in
                ap₂ (λ (a b : Bool). a && b) (eq-eqb w.job.inv j.inv (ap (λ (z : Job). z.inv) same))
                (ap₂ (λ (a b : Bool). a && b)
                (lt-ltb start (f + l.at) (omega (arith, own.starts, own.first, w.released, ap (λ (z : Job). z.release) same)))
                (le-leb (f + l.at) stop (omega (arith, own.starts, own.last, w.late, ap (λ (z : Job). z.end) same))))
            one false e = other (eqb w.job.inv j.inv) (ltb start (f + l.at) && leb (f + l.at) stop) refl refl e

    -- of q's own they are left by the end
    in_time : (i : ℕ) (l : Left) → slice_get walk i ≡ Some l → DoesWork l → l.position ≡ Some q → f + l.at < suc end
    in_time i l is does mine =
        let w = working k i l is does in
        omega (arith, late, w.late, ap (λ (z : Job). z.end) (same_Some _ _ (sym w.at ∙ ap (slice_get (frame k).jobs) (same_Some _ _ (sym w.of ∙ mine)) ∙ at)))

    lines : {X : Type 0} (h : RunLine → List X) → ((from to inv : ℕ) → (ltb start to && leb to stop) ≡ false → h (SliceLine from to inv) ≡ []) → ((at inv : ℕ) → (ltb start at && leb at stop) ≡ false → h (DoneLine at inv) ≡ [])
        → joined h (job_lines_to t lists es end) ≡ joined (before_now (owed h (frame k).jobs f) f (suc end)) walk
    lines h slice_out done_out =
        let p = frame k in
        let s = frames_are_served t lists es f run in
        ap (λ (o : Option ℕ). joined h (up_to (job_lines_at t lists es o) (suc end))) hyper_is
        ∙ of_run h t lists es start stop slice_out done_out (frame_of t) k run.ticks (omega (arith, own.starts)) (omega (arith, own.starts, own.inside))
        (λ m i l is does. let w = working m i l is does in (omega (arith, w.released), (every_job_in_time t lists es end run).inside m i l is, w.ends))
        (path_rises p.jobs p.lists p.legs 0 (frame_of t) (length p.jobs) (first_point p.jobs p.lengths) s.forms s.chain) (suc end)

    slices_are : joined (slice_time j.inv start stop) (job_lines_to t lists es end) ≡ map (shift f) (slices walk q)
    slices_are =
        lines (slice_time j.inv start stop) (λ from to inv out. out_of j.inv inv (ltb start to && leb to stop) ((from, to) ∷ []) out) (λ at inv out. refl)
        ∙ joined_each (before_now (owed (slice_time j.inv start stop) (frame k).jobs f) f (suc end)) (position_slice f q) walk
        (λ i l is. slice_claim (frame k).jobs f q (suc end) j.inv start stop l.at l.position l.slice l.finished
        (λ u has. ((working k i l is (inl (u, has))).ends u has, counts i l is (inl (u, has))))
        (λ mine u has. in_time i l is (inl (u, has)) mine))
        ∙ all_slices f q walk

    pub told : IsToldInTime (job_lines_to t lists es end) start stop f j (get_or (frame k).lengths q 0) (finish walk q)
    told =
        let v = served k q j at here in
        let once = done_once f q walk v.record_at v.finish_at v.done v.once in
        record {
          done_at = f + v.finish_at;
          done =
              lines (done_time j.inv start stop) (λ from to inv out. refl) (λ at inv out. out_of j.inv inv (ltb start at && leb at stop) (at ∷ []) out)
              ∙ joined_each (before_now (owed (done_time j.inv start stop) (frame k).jobs f) f (suc end)) (position_done f q) walk
              (λ i l is. done_claim (frame k).jobs f q (suc end) j.inv start stop l.at l.position l.slice l.finished (λ has. counts i l is (inr has)) (λ mine has. in_time i l is (inr has) mine))
              ∙ once;
          exact = first_done f q walk (f + v.finish_at) [] once;
          in_time = omega (arith, v.in_time);
          within = subst (AllWithin (f + j.release) (f + j.end)) (sym slices_are) (shifted_within f j.release j.end (slices walk q) v.within);
          whole = ap spent slices_are ∙ shifted_spent f (slices walk q) ∙ v.whole;
        }

-- without modules no frame has jobs
none_there : (t : Tables) (lists : List (List SInstr)) (es : List Event) (f : ℕ) → root_modules t ≡ [] → (frame_at t lists es f).jobs ≡ []
none_there t lists es f none = ap (derived_jobs t modes) (ap (running_places t modes) (ap (flat_map (rounds_at t)) starts_none))
  where
    modes : ℕ → List (Option ℕ)
    modes = frame_modes t es f

    long : frame_of t ≡ 0
    long = ap (λ (us : List ℕ). elim (elim (map (unit_period t) us) as (λ _. Option ℕ) [ [] ↦ None | p ∷ ps ↦ Some (multiple_of p ps) ]) as (λ _. ℕ) [ Some h ↦ h | None ↦ 0 ]) none

    starts_none : starts t ≡ []
    starts_none = ap (starts_below (root_periods t)) long

module _ (t : Tables) (lists : List (List SInstr)) (loaded : IsLoaded t lists) (es : List Event) (within : AreTookWithin t es) (end : ℕ) where
  pub told_in_time : AllToldInTime t lists es end (job_lines_to t lists es end)
  told_in_time k q j at here late = by (root_modules t) refl
    where
      by : (us : List ℕ) → root_modules t ≡ us
          → IsToldInTime (job_lines_to t lists es end) (job_round t es (k * frame_of t) q) (job_round t es (k * frame_of t) q + inv_period t j.inv) (k * frame_of t) j (get_or (frame_at t lists es (k * frame_of t)).lengths q 0)
          (finish (walk_of (frame_at t lists es (k * frame_of t))) q)
      by [] e = not_some j (ap (λ (js : List Job). slice_get js q) (sym (none_there t lists es (k * frame_of t) e)) ∙ at)
      by (u ∷ us) e = told t lists es (run_of t lists loaded es within (omega (arith, ap (λ (xs : List ℕ). length xs) e))) k end q j at here late
