-- The job lines of a run make a legal log.
use Rattle.std.proofs.Common.{◌≡◌, ◌≤◌, ◌<◌, inl, inr, ℕ, suc, ◌+◌, ◌-◌, ◌*◌, ◌/◌, Bool, true, false, cond, not, ◌&&◌, ◌||◌, eqb, leb, ltb, List, [], ◌∷◌, ◌++◌, length, map, take, slice_get, get_or, Option, Some, None, refl, sym, ap, ap₂, ◌∙◌, subst, arith}
use Rattle.htl_audit.proofs.Words.{eq-eqb, ltb-true, and_parts, cases_lt, Event, root_periods, begins, unit_period, hyper, frame_of, multiple_of, up_to, root_modules, Tables, frame_some, up_to_same, Job, SInstr, precedes, job_at, job_is, IsFeasibleRun, frames_are_served, schedules_of, Slice, HaveRounds, BeginningJobs, round_of, all_rounds, lies_in, ticks, job_length, is_done, is_free, is_over, is_short, any_job, any_short, last_end, line_fault, IsLegal, IsLegalIn, own_at, own_log, OwnLogIsLegal, none-some, up_to_none, false_from_ne_true}
use Rattle.htl_audit.proofs.{FaultLaws.is_legal, ClosedSlices.given, FrameJobs.IsFramed, FrameJobs.of_round, FrameJobs.of_frame, FrameJobs.framed_precedes, FrameJobs.frames_run, Growing.start_is, Growing.round_is, RoundJobs.fresh}
use Rattle.htl_audit.proofs.{FrameSlices.frame_plan, FrameSlices.frame_slices_at, FrameSlices.slices_are, JobTests.all_pass_0, JobTests.IsJobOf, JobTests.job_found, JobTests.job_there, JobTests.short_parts, Judging.lies, Judging.implied}
use Rattle.htl_audit.proofs.OwnSoFar.{start_of, cut, last_early, same_round, mod_below, keeps, IsRun, again, later_at, few, IsAt, is_at, elsewhere, ticks_before}
use Rattle.htl_audit.proofs.OwnTicks.{Plan, walk_of, IsSound, audited, IsOwn, own, own_lies, never_over, window_given, all_given, ready, before}
use Rattle.htl_audit.proofs.{Rounds.accepted_range, Rounds.accepted_kept, Rounds.have_rounds, StandingJobs.round_there}

-- ---- a job by its rounds and by its frame

module _ (r u : BeginningJobs) (j k : Job) (here : j.present ≡ k.present) (inv : j.inv ≡ k.inv) (from : r.start + j.release ≡ u.start + k.release) (to : r.start + j.end ≡ u.start + k.end) where
  -- has the same slices
  lies_alike : (x : Slice) → lies_in r j x ≡ lies_in u k x
  lies_alike x =
      ap₂ (λ (a b : Bool). a && b) (ap₂ (λ (a b : Bool). a && b) (ap₂ (λ (a b : Bool). a && b) here (ap (eqb x.inv) inv)) (ap (λ z. leb z x.from) from)) (ap (leb x.to) to)

  ticks_alike : (xs : List Slice) → ticks r j xs ≡ ticks u k xs
  ticks_alike [] = refl
  ticks_alike (x ∷ xs) = ap₂ (λ b n. cond b (x.to - x.from) 0 + n) (lies_alike x) (ticks_alike xs)

module _ (t : Tables) (lists : List (List SInstr)) (es : List Event) (rounds_fit : HaveRounds t) (run : IsFeasibleRun t lists es) where
  abbrev h : ℕ
  h = frame_of t

  abbrev plan : ℕ → Plan
  plan = frame_plan t lists es

  abbrev at : ℕ → List Slice
  at now = frame_slices_at (frame_plan t lists es) (frame_of t) now

  runs : IsRun (frame_plan t lists es) (frame_of t)
  runs = frames_run t lists es rounds_fit run

  -- a present job of the audit's rounds, by its frame
  record IsJobAt (r : BeginningJobs) (p : ℕ) (j : Job) : Type 0 where
    start : ℕ
    of : round_of t es start ≡ r
    frame : ℕ
    whole : start_of (frame_of t) frame ≡ frame
    own : start_of (frame_of t) start ≡ frame
    position : ℕ
    job : Job
    is : IsFramed t lists es rounds_fit run frame position job start p j
    lies_is : (x : Slice) → lies_in r j x ≡ lies_in (audited (frame_plan t lists es frame) frame) job x
    ticks_are : (n : ℕ) → ticks r j (up_to (λ now. frame_slices_at (frame_plan t lists es) (frame_of t) now) n) ≡ given position frame n (walk_of (frame_plan t lists es frame))
    length_is : job_length r p ≡ get_or (frame_plan t lists es frame).lengths position 0
    end_is : r.start + j.end ≡ frame + job.end

  job_in_frame : (r : BeginningJobs) (s p : ℕ) (j : Job) → round_of t es s ≡ r → slice_get r.jobs p ≡ Some j → j.present ≡ true → IsJobAt r p j
  job_in_frame r s p j of job here =
      let g = of_round t lists es rounds_fit run s p j (ap (λ (z : BeginningJobs). slice_get z.jobs p) of ∙ job) here in
      let f = start_of (frame_of t) s in
      let k = g.job in
      let start : r.start ≡ s = ap (λ (z : BeginningJobs). z.start) (sym of) in
      let from : r.start + j.release ≡ f + k.release = omega (arith, start, g.is.release_is) in
      let to : r.start + j.end ≡ f + k.end = omega (arith, start, g.is.end_is) in
      let present : j.present ≡ k.present = here ∙ sym g.is.here in
      record {
        start = s;
        of = of;
        frame = f;
        whole = again (frame_plan t lists es) (frame_of t) runs s;
        own = refl;
        position = g.position;
        job = k;
        is = g.is;
        lies_is = lies_alike r (audited (frame_plan t lists es f) f) j k present (sym g.is.inv) from to;
        ticks_are = λ n.
            ticks_alike r (audited (frame_plan t lists es f) f) j k present (sym g.is.inv) from to (up_to (λ now. frame_slices_at (frame_plan t lists es) (frame_of t) now) n)
            ∙ ticks_before (frame_plan t lists es) (frame_of t) runs f (again (frame_plan t lists es) (frame_of t) runs s) g.position k g.is.at_frame g.is.here n;
        length_is = ap (λ (z : BeginningJobs). job_length z p) (sym of) ∙ sym g.is.length;
        end_is = to;
      }

  job_known : (now p : ℕ) (r : BeginningJobs) (j : Job) → IsJobOf (all_rounds t es now) r p j → j.present ≡ true → IsJobAt r p j
  job_known now p r j is here = let a = round_is t es now is.number r is.at in job_in_frame r a.0 p j a.2 is.job here

  -- ---- one line

  module _ (end m : ℕ) (x : Slice) (here : at (suc m) ≡ x ∷ []) (soon : m < end) where
    abbrev s : ℕ
    s = start_of (frame_of t) m

    abbrev r : Plan
    r = frame_plan t lists es (start_of (frame_of t) m)

    abbrev rounds : List BeginningJobs
    rounds = all_rounds t es (suc end)

    whole : start_of h s ≡ s
    whole = again plan h runs m

    sound : IsSound r h
    sound = runs.sound s whole

    mine : IsOwn r s (suc m) x
    mine = own r s h sound (suc m) 0 x (ap (λ (xs : List Slice). slice_get xs 0) (sym (later_at plan h runs m) ∙ here))

    stands : IsAt plan h runs (suc m) x
    stands = is_at plan h runs (suc m) 0 x (ap (λ (xs : List Slice). slice_get xs 0) here)

    from : s + mine.from.slice.0 ≡ x.from
    from = ap (λ (z : Slice). z.from) mine.from.is

    -- the lines before it end before it begins
    sorted : last_end (up_to at (suc m)) ≤ x.from
    sorted = last_early x.from (up_to at (suc m)) earlier
      where
        past : (n : ℕ) (y : Slice) → n < m → IsOwn (plan (start_of h n)) (start_of h n) (suc n) y → y.to ≡ suc n → y.to ≤ x.from
        past n y less o to = elim (cases_lt n s) [
          | inl other ↦ omega (arith, to, other, from)
          | inr first ↦
              let near : m < s + h = mod_below h m runs.some in
              let same : start_of h n ≡ s = same_round h (m / h) n runs.some first (omega (arith, less, near)) in
              before r s h sound (suc m) (suc n) x y mine (subst (λ z. IsOwn (plan z) z (suc n) y) same o) (omega (arith, less))
        ]

        earlier : (i : ℕ) (y : Slice) → slice_get (up_to at (suc m)) i ≡ Some y → y.to ≤ x.from
        earlier i y e =
            let c = cut at (few plan h runs) (suc m) i y e in
            let a = is_at plan h runs c.now 0 y (ap (λ (xs : List Slice). slice_get xs 0) c.here) in
            past a.before y (omega (arith, c.below, a.next)) a.own (omega (arith, a.to, a.next))

    -- it lies in the window of its job
    inside : any_job (λ r j. lies_in r j.1 x) rounds ≡ true
    inside =
        let p = mine.from.position in
        let k = job_at r.jobs p in
        let g = of_frame t lists es rounds_fit run s p k whole mine.job mine.present in
        let in_frame = own_lies r s h sound (suc m) x mine in
        let l = lies (audited r s) k x in_frame in
        let early : g.start < suc end = omega (arith, g.is.early, l.from, stands.room, stands.to, soon) in
        let n = round_there t run.range run.kept rounds_fit es (suc end) g.start g.position g.job (fresh t run.range run.kept rounds_fit es g.start g.position g.job g.is.at_round g.is.there) early in
        job_there (λ r j. lies_in r j.1 x) rounds (round_of t es g.start) g.position g.job (record { number = n.0; at = n.1; job = g.is.at_round })
        (lies_alike (round_of t es g.start) (audited r s) g.job k (g.is.there ∙ sym g.is.here) (sym g.is.inv) (sym g.is.release_is) (sym g.is.end_is) x ∙ in_frame)

    -- no job has more ticks than it takes
    never_more : any_job (λ r j. lies_in r j.1 x && is_over r (up_to at (suc m) ++ x ∷ []) j) rounds ≡ true → ⊥
    never_more e =
        let f = job_found (λ r j. lies_in r j.1 x && is_over r (up_to at (suc m) ++ x ∷ []) j) rounds e in
        let two = and_parts (lies_in f.round f.job x) (is_over f.round (up_to at (suc m) ++ x ∷ []) (f.position, f.job)) f.passes in
        let present = (lies f.round f.job x two.0).present in
        let k = job_known (suc end) f.position f.round f.job f.is present in
        let over = ltb-true (job_length f.round f.position) (ticks f.round f.job (up_to at (suc m) ++ x ∷ [])) two.1 in
        let more : ticks f.round f.job (up_to at (suc m) ++ x ∷ []) ≡ ticks f.round f.job (up_to at (suc (suc m))) = ap (λ xs. ticks f.round f.job (up_to at (suc m) ++ xs)) (sym here) in
        let most = never_over (plan k.frame) k.frame h (runs.sound k.frame k.whole) k.position k.job k.is.at_frame k.is.here (suc (suc m)) in
        omega (arith, over, more, k.ticks_are (suc (suc m)), k.length_is, most)

    -- the predecessors of its job are done
    free : (p : ℕ) (j : Job) (other : BeginningJobs) → IsJobOf rounds other p j → lies_in other j x ≡ true → is_free other (up_to at (suc m)) j ≡ true
    free p j other is e =
        let l = lies other j x e in
        let k = job_known (suc end) p other j is l.present in
        let there : lies_in (audited (plan k.frame) k.frame) k.job x ≡ true = sym (k.lies_is x) ∙ e in
        let same : s ≡ k.frame = elsewhere plan h runs k.frame k.whole k.position k.job k.is.at_frame k.is.here m x stands.room stands.to there in
        let job : slice_get r.jobs k.position ≡ Some k.job = ap (λ z. slice_get (plan z).jobs k.position) same ∙ k.is.at_frame in
        let inv : (job_at r.jobs mine.from.position).inv ≡ x.inv = ap (λ (z : Slice). z.inv) mine.from.is in
        let w = lies (audited (plan k.frame) k.frame) k.job x there in
        let to : s + mine.from.slice.1 ≡ x.to = ap (λ (z : Slice). z.to) mine.from.is in
        let position : mine.from.position ≡ k.position =
        sound.once mine.from.position k.position (job_at r.jobs mine.from.position) k.job mine.job job mine.present k.is.here (inv ∙ w.inv) (omega (arith, mine.early, mine.room, w.to, to, same)) (omega (arith, mine.late, mine.room, w.from, from, same)) in
        let of = mine.from.of ∙ ap (λ z. Some z) position in
        all_pass_0 (λ (q : ℕ × Job). not (precedes q.0 j && q.1.present) || is_done other (up_to at (suc m)) q) other.jobs
        (λ q i at_q.
        implied (precedes q j && i.present) (is_done other (up_to at (suc m)) (q, i))
        (λ waits.
        let w = and_parts (precedes q j) i.present waits in
        let g = job_in_frame other k.start q i k.of at_q w.1 in
        let frame : g.frame ≡ k.frame = sym g.own ∙ ap (start_of h) (start_same g.start k.start other g.of k.of) ∙ k.own in
        let moved : IsFramed t lists es rounds_fit run k.frame g.position g.job k.start q i =
        subst (λ z. IsFramed t lists es rounds_fit run z g.position g.job k.start q i) frame (subst (λ z. IsFramed t lists es rounds_fit run g.frame g.position g.job z q i) (start_same g.start k.start other g.of k.of) g.is) in
        let before = framed_precedes t lists es rounds_fit run k.frame k.position g.position k.start p q k.job g.job j i k.is moved w.0 in
        let at_g : slice_get r.jobs g.position ≡ Some g.job = ap (λ z. slice_get (plan z).jobs g.position) same ∙ moved.at_frame in
        let g_is : job_at r.jobs g.position ≡ g.job = job_is r.jobs g.position g.job at_g in
        let done = ready r s h sound k.position k.job job k.is.here mine.from.number mine.from.left mine.from.slice mine.from.at of mine.from.runs g.position before (ap (λ (z : Job). z.present) g_is ∙ moved.here) in
        let early : s + done.0 < suc m = omega (arith, done.2, mine.ends, mine.from.then) in
        let all = all_given r s h sound g.position g.job at_g moved.here done.0 (suc m) done.1 early in
        let one : s ≡ g.frame = same ∙ sym frame in
        eq-eqb (ticks other i (up_to at (suc m))) (job_length other q)
        (g.ticks_are (suc m) ∙ ap (λ z. given g.position z (suc m) (walk_of (plan z))) (sym one) ∙ all ∙ ap (λ z. get_or (plan z).lengths g.position 0) one ∙ sym g.length_is)))
      where
        start_same : (a b : ℕ) (other : BeginningJobs) → round_of t es a ≡ other → round_of t es b ≡ other → a ≡ b
        start_same a b other e f = ap (λ (z : BeginningJobs). z.start) (e ∙ sym f)

    always_free : any_job (λ r j. lies_in r j.1 x && not (is_free r (up_to at (suc m)) j.1)) rounds ≡ true → ⊥
    always_free e =
        let f = job_found (λ r j. lies_in r j.1 x && not (is_free r (up_to at (suc m)) j.1)) rounds e in
        let two = and_parts (lies_in f.round f.job x) (not (is_free f.round (up_to at (suc m)) f.job)) f.passes in
        let z : not true ≡ true = ap not (sym (free f.position f.job f.round f.is two.0)) ∙ two.1 in
        let y : ⊥ = cc in
        y

    line_keeps : line_fault rounds (suc end) (up_to at (suc m)) x ≡ None
    line_keeps = keeps rounds (suc end) (up_to at (suc m)) x stands.room sorted (omega (arith, soon, stands.to)) inside never_more always_free

  -- ---- the log

  lines_keep : (end i : ℕ) (x : Slice) → slice_get (up_to at (suc end)) i ≡ Some x → line_fault (all_rounds t es (suc end)) (suc end) (take i (up_to at (suc end))) x ≡ None
  lines_keep end i x e =
      let c = cut at (few plan h runs) (suc end) i x e in
      let a = is_at plan h runs c.now 0 x (ap (λ (xs : List Slice). slice_get xs 0) c.here) in
      ap (λ log. line_fault (all_rounds t es (suc end)) (suc end) log x) (c.front ∙ ap (up_to at) a.next) ∙ line_keeps end a.before x (ap at (sym a.next) ∙ c.here) (omega (arith, c.below, a.next))

  none_short : (end : ℕ) → any_short (all_rounds t es (suc end)) (suc end) (up_to at (suc end)) ≡ false
  none_short end =
      false_from_ne_true (any_short (all_rounds t es (suc end)) (suc end) (up_to at (suc end)))
      (λ e.
      let f = job_found (λ r j. is_short (suc end) r (up_to at (suc end)) j) (all_rounds t es (suc end)) e in
      let short = short_parts f.job.present (f.round.start + f.job.end) (suc end) (ticks f.round f.job (up_to at (suc end))) (job_length f.round f.position) f.passes in
      let k = job_known (suc end) f.position f.round f.job f.is short.0 in
      let all = window_given (plan k.frame) k.frame h (runs.sound k.frame k.whole) k.position k.job k.is.at_frame k.is.here (suc end) (omega (arith, short.1, k.end_is)) in
      omega (arith, short.2, k.ticks_are (suc end), k.length_is, all))

  pub run_is_legal : (end : ℕ) → IsLegalIn (all_rounds t es (suc end)) (suc end) (up_to at (suc end))
  run_is_legal end = record { lines = lines_keep end; whole = none_short end }

-- without modules there are neither rounds nor slices
no_round_is_legal : (t : Tables) (es : List Event) → root_modules t ≡ [] → (end : ℕ) → IsLegalIn (all_rounds t es (suc end)) (suc end) []
no_round_is_legal t es none end = record { lines = λ i x at. absurd (none-some x at); whole = by (any_short (all_rounds t es (suc end)) (suc end) []) refl }
  where
    never : (n : ℕ) → begins (root_periods t) n ≡ false
    never n = ap (λ us. begins (map (unit_period t) us) n) none

    by : (b : Bool) → any_short (all_rounds t es (suc end)) (suc end) [] ≡ b → b ≡ false
    by false e = refl
    by true e =
        let f = job_found (λ r j. is_short (suc end) r [] j) (all_rounds t es (suc end)) e in
        let a = round_is t es (suc end) f.is.number f.round f.is.at in
        let b = start_is (root_periods t) (suc end) f.is.number a.0 a.1 in
        let z : true ≡ false = sym b.1 ∙ never a.0 in
        let y : ⊥ = cc in
        absurd y

-- ---- the law

pub own_log_is_legal : OwnLogIsLegal
own_log_is_legal o es end accepted within =
    let legal = by (root_modules o.tables) refl in
    (legal, is_legal (all_rounds o.tables es (suc end)) (suc end) (own_log o.tables (schedules_of o) es end) legal)
  where
    no_hyper : root_modules o.tables ≡ [] → hyper o.tables ≡ None
    no_hyper e = ap (λ us. elim (map (unit_period o.tables) us) as (λ _. Option ℕ) [ [] ↦ None | p ∷ ps ↦ Some (multiple_of p ps) ]) e

    some_hyper : (u : ℕ) (us : List ℕ) → root_modules o.tables ≡ u ∷ us → hyper o.tables ≡ Some (frame_of o.tables)
    some_hyper u us e =
        let is : hyper o.tables ≡ Some (multiple_of (unit_period o.tables u) (map (unit_period o.tables) us)) = ap (λ vs. elim (map (unit_period o.tables) vs) as (λ _. Option ℕ) [ [] ↦ None | p ∷ ps ↦ Some (multiple_of p ps) ]) e in
        is ∙ ap (λ z. Some z) (sym (ap (λ (h : Option ℕ). elim h as (λ _. ℕ) [ Some n ↦ n | None ↦ 0 ]) is))

    by : (us : List ℕ) → root_modules o.tables ≡ us → IsLegal o.tables es end (own_log o.tables (schedules_of o) es end)
    by (u ∷ us) e =
        let some : 0 < length (root_modules o.tables) = omega (arith, ap (λ (vs : List ℕ). length vs) e) in
        let range = accepted_range o accepted in
        let run : IsFeasibleRun o.tables (schedules_of o) es = record { range = range; kept = accepted_kept o accepted; within = within; modules = some; ticks = frame_some o.tables range some; accepted = accepted.feasible } in
        subst (IsLegal o.tables es end) (sym (in_frames u us e run)) (run_is_legal o.tables (schedules_of o) es (have_rounds o accepted) run end)
      where
        in_frames : (u : ℕ) (us : List ℕ) → root_modules o.tables ≡ u ∷ us → IsFeasibleRun o.tables (schedules_of o) es
            → own_log o.tables (schedules_of o) es end ≡ up_to (frame_slices_at (frame_plan o.tables (schedules_of o) es) (frame_of o.tables)) (suc end)
        in_frames u us e run =
            ap (λ p. up_to (own_at o.tables (schedules_of o) es p) (suc end)) (some_hyper u us e)
            ∙ up_to_same (own_at o.tables (schedules_of o) es (Some (frame_of o.tables))) (frame_slices_at (frame_plan o.tables (schedules_of o) es) (frame_of o.tables)) (suc end)
            (λ now less. slices_are o.tables (schedules_of o) es (frame_of o.tables) now (λ k. frames_are_served o.tables (schedules_of o) es (k * frame_of o.tables) run))
    by [] e =
        subst (λ p. IsLegal o.tables es end (up_to (own_at o.tables (schedules_of o) es p) (suc end))) (sym (no_hyper e))
        (subst (λ log. IsLegal o.tables es end log) (sym (up_to_none (own_at o.tables (schedules_of o) es None) (suc end) (λ k less. refl))) (no_round_is_legal o.tables es e end))
