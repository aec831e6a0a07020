-- Later rounds and later events: the rounds agree for all that is judged before.
use Rattle.std.proofs.Common.{◌≡◌, ℕ, zero, suc, ◌+◌, ◌-◌, ◌≤◌, ◌<◌, ◌⊎◌, inl, inr, Bool, true, false, cond, List, [], ◌∷◌, ◌++◌, length, get_or, map, Option, Some, None, refl, sym, ap, ◌∙◌, subst, arith}
use Rattle.htl_audit.proofs.Words.{flat_map, append-nil, get_or_from_slice_get, none-some, Event, Inv, Stay, State, chosen, root_periods, begins, starts_below, sense, newest, Tables, release, task_worst, window_end, history_local, Job, absent_job, is_fed_by, job_of, mask, running_invs, took, lengths_of, modes_at, mapped, map_at, BeginningJobs, beginning, jobs_from, round_of, starts_before, all_rounds, Matches, HasMatch, IsMatched, Agree, AgreeBefore, HaveRounds, get_either, map_same, below_start, cases_lt, slice_get, option_map}
use mathlib.Core.Path.{fun_ext}

-- ---- the instants at which rounds begin

pub start_is : (ps : List ℕ) (n m s : ℕ) → slice_get (starts_below ps n) m ≡ Some s → (s < n) × (begins ps s ≡ true)
start_is ps zero m s e = absurd (none-some s e)
start_is ps (suc n) m s e = by (get_either (starts_below ps n) (cond (begins ps n) (n ∷ []) []) m s e) (λ q g. start_is ps n q s g)
  where
    last : (b : Bool) (q : ℕ) → begins ps n ≡ b → slice_get (cond b (n ∷ []) []) q ≡ Some s → (s < suc n) × (begins ps s ≡ true)
    last true zero is g = let one : n ≡ s = cc in (omega (arith, one), subst (λ z. begins ps z ≡ true) one is)
    last true (suc q) is g = absurd (none-some s g)
    last false q is g = absurd (none-some s g)

    by : (slice_get (starts_below ps n) m ≡ Some s) ⊎ ((q : ℕ) × (m ≡ length (starts_below ps n) + q) × (slice_get (cond (begins ps n) (n ∷ []) []) q ≡ Some s))
        → ((q : ℕ) → slice_get (starts_below ps n) q ≡ Some s → (s < n) × (begins ps s ≡ true)) → (s < suc n) × (begins ps s ≡ true)
    by (inl h) later = let g = later m h in (omega (arith, g.0), g.1)
    by (inr h) later = last (begins ps n) h.0 refl h.2

-- where no round begins from one instant up to another, the starts before them are the same
pub starts_still : (ps : List ℕ) (a d : ℕ) → ((n : ℕ) → a ≤ n → n < a + d → begins ps n ≡ false) → starts_below ps a ≡ starts_below ps (a + d)
starts_still ps a zero none = ap (starts_below ps) (let z : a ≡ a + 0 = omega arith in z)
starts_still ps a (suc d) none =
    let e : begins ps (a + d) ≡ false = none (a + d) (omega arith) (omega arith) in
    starts_still ps a d (λ n h g. none n h (omega (arith, g))) ∙ sym (ap (λ b. starts_below ps (a + d) ++ cond b ((a + d) ∷ []) []) e ∙ append-nil (starts_below ps (a + d)))
    ∙ ap (starts_below ps) (let z : suc (a + d) ≡ a + suc d = omega arith in z)

-- ---- the job of a position

abbrev pub placed : Tables → List (Option ℕ) → ℕ → Inv → Job
placed t standing k i =
    record { present = true; inv = k; release = release t i; end = window_end t i; worst = task_worst t i.task; preds = mask (map (is_fed_by t k) standing) }

-- a job that is present is of the invocation that stands there
pub job_parts : (t : Tables) (standing : List (Option ℕ)) (o : Option ℕ) (j : Job) → job_of t standing o ≡ j → j.present ≡ true → (x : Inv) × (slice_get t.invs j.inv ≡ Some x) × (j.release ≡ release t x) × (j.end ≡ window_end t x) × (o ≡ Some j.inv)
job_parts t standing None j e here = absurd (let z : false ≡ true = ap (λ (y : Job). y.present) e ∙ here in cc)
job_parts t standing (Some k) j e here = by (slice_get t.invs k) refl
  where
    by : (o : Option Inv) → slice_get t.invs k ≡ o → (x : Inv) × (slice_get t.invs j.inv ≡ Some x) × (j.release ≡ release t x) × (j.end ≡ window_end t x) × (Some k ≡ Some j.inv)
    by None at =
        let absent : job_of t standing (Some k) ≡ absent_job = ap (λ (o : Option Inv). elim o [ None ↦ absent_job | Some x ↦ placed t standing k x ]) at in
        absurd (let z : false ≡ true = ap (λ (z : Job). z.present) (sym absent ∙ e) ∙ here in cc)
    by (Some x) at =
        let is : placed t standing k x ≡ j = sym (ap (λ (o : Option Inv). elim o [ None ↦ absent_job | Some x ↦ placed t standing k x ]) at) ∙ e in
        (x, subst (λ n. slice_get t.invs n ≡ Some x) (ap (λ (z : Job). z.inv) is) at, sym (ap (λ (z : Job). z.release) is), sym (ap (λ (z : Job). z.end) is), ap (λ (z : Job). Some z.inv) is)

-- a job of a round
pub round_job : (t : Tables) (modes : List (Option ℕ)) (us : List ℕ) (p : ℕ) (j : Job) → slice_get (jobs_from t modes us) p ≡ Some j → j.present ≡ true
    → (x : Inv) × (slice_get t.invs j.inv ≡ Some x) × (j.release ≡ release t x) × (j.end ≡ window_end t x)
round_job t modes us p j at here =
    let standing = map (chosen t modes) (flat_map (running_invs t modes) us) in
    let o = mapped (job_of t standing) standing p j at in
    let x = job_parts t standing o.0 j o.2 here in
    (x.0, x.1, x.2, x.3)

-- how long it takes
pub length_is : (t : Tables) (es : List Event) (start p : ℕ) (js : List Job) (j : Job) → slice_get js p ≡ Some j → get_or (lengths_of t es start js) p 0 ≡ took t es j.inv (start + j.release)
length_is t es start p js j at =
    let f = λ (j : Job). took t es j.inv (start + j.release) in
    get_or_from_slice_get (map f js) p (f j) 0 (map_at f js p j at)

-- ---- the rounds agree

-- a round, and the instant at which it begins
pub round_is : (t : Tables) (es : List Event) (now m : ℕ) (r : BeginningJobs) → slice_get (all_rounds t es now) m ≡ Some r → (s : ℕ) × (slice_get (starts_before t now) m ≡ Some s) × (round_of t es s ≡ r)
round_is t es now m r at = mapped (round_of t es) (starts_before t now) m r at

module _ (t : Tables) (rounds : HaveRounds t) (es fs : List Event) (now : ℕ) (agree : AgreeBefore t es fs now) where
  modes_same : (s : ℕ) → s < now → modes_at t es s ≡ modes_at t fs s
  modes_same s h =
      ap (λ (z : State). map (λ (o : Option Stay). option_map (λ (y : Stay). y.mode) o) z.stays) (ap newest (history_local t (sense t es) (sense t fs) s (λ c u g. agree.senses c u (omega (arith, g, h)))))

  pub matched : (s : ℕ) → s < now → Matches now (round_of t es s) (round_of t fs s)
  matched s h =
      let us = beginning t s in
      let jobs : jobs_from t (modes_at t es s) us ≡ jobs_from t (modes_at t fs s) us = ap (λ m. jobs_from t m us) (modes_same s h) in
      record {
        start = refl;
        jobs = jobs;
        lengths = λ p j at here early.
            length_is t es s p (jobs_from t (modes_at t es s) us) j at ∙ agree.tooks j.inv (s + j.release) early
            ∙ sym (length_is t fs s p (jobs_from t (modes_at t fs s) us) j (ap (λ js. slice_get js p) (sym jobs) ∙ at));
        some = λ p j at here.
            let x = round_job t (modes_at t es s) us p j at here in
            let two = agree.some j.inv (s + j.release) x.0 x.1 in (
              omega (arith, length_is t es s p (jobs_from t (modes_at t es s) us) j at, two.0),
              omega (arith, length_is t fs s p (jobs_from t (modes_at t fs s) us) j (ap (λ js. slice_get js p) (sym jobs) ∙ at), two.1),
            );
        window = λ p j at here. let x = round_job t (modes_at t es s) us p j at here in omega (arith, x.2, x.3, (rounds.windows j.inv x.0 x.1).0);
      }

  pub rounds_agree : (later : ℕ) → now ≤ later → Agree now (all_rounds t es now) (all_rounds t fs later)
  rounds_agree later h = record { there = there; back = back }
    where
      there : (n : ℕ) (r : BeginningJobs) → slice_get (all_rounds t es now) n ≡ Some r → IsMatched now (all_rounds t fs later) r
      there n r at =
          let s = round_is t es now n r at in
          let is = start_is (root_periods t) now n s.0 s.1 in
          let m = below_start (root_periods t) later s.0 (omega (arith, is.0, h)) is.1 in
          record { round = round_of t fs s.0; number = m.0; at = map_at (round_of t fs) (starts_before t later) m.0 s.0 m.1; same = subst (λ z. Matches now z (round_of t fs s.0)) s.2 (matched s.0 is.0) }

      back : (n : ℕ) (r : BeginningJobs) → slice_get (all_rounds t fs later) n ≡ Some r → HasMatch now (all_rounds t es now) r ⊎ (now ≤ r.start)
      back n r at =
          let s = round_is t fs later n r at in
          let is = start_is (root_periods t) later n s.0 s.1 in
          elim (cases_lt s.0 now) [
            | inl early ↦
                let m = below_start (root_periods t) now s.0 early is.1 in
                inl (record { round = round_of t es s.0; number = m.0; at = map_at (round_of t es) (starts_before t now) m.0 s.0 m.1; same = subst (λ z. Matches now (round_of t es s.0) z) s.2 (matched s.0 early) })
            | inr late ↦ inr (omega (arith, late, ap (λ (z : BeginningJobs). z.start) s.2))
          ]

-- ---- events after which the rounds are the very same

-- the sensors show the same before `now`, and all jobs take the same time
pub rounds_same : (t : Tables) (es fs : List Event) (now : ℕ) → ((c u : ℕ) → u < now → sense t es c u ≡ sense t fs c u) → ((i u : ℕ) → took t es i u ≡ took t fs i u)
    → all_rounds t es now ≡ all_rounds t fs now
rounds_same t es fs now senses tooks = map_same (round_of t es) (round_of t fs) (starts_before t now) (λ n s at. one s (start_is (root_periods t) now n s at).0)
  where
    modes_are : (s : ℕ) → s < now → modes_at t es s ≡ modes_at t fs s
    modes_are s h =
        ap (λ (z : State). map (λ (o : Option Stay). option_map (λ (y : Stay). y.mode) o) z.stays) (ap newest (history_local t (sense t es) (sense t fs) s (λ c u g. senses c u (omega (arith, g, h)))))

    lengths_are : (s : ℕ) (js : List Job) → lengths_of t es s js ≡ lengths_of t fs s js
    lengths_are s js = ap (λ f. map f js) (fun_ext (λ (j : Job). tooks j.inv (s + j.release)))

    one : (s : ℕ) → s < now → round_of t es s ≡ round_of t fs s
    one s h =
        let us = beginning t s in
        let make : List Job → List ℕ → BeginningJobs = λ js ns. record { start = s; jobs = js; lengths = ns } in
        ap (make (jobs_from t (modes_at t es s) us)) (lengths_are s (jobs_from t (modes_at t es s) us))
        ∙ ap (λ m. make (jobs_from t m us) (lengths_of t fs s (jobs_from t m us))) (modes_are s h)

-- where no round begins from one instant up to another, the rounds are the same
pub rounds_still : (t : Tables) (es : List Event) (now later : ℕ) → now ≤ later → ((n : ℕ) → now ≤ n → n < later → begins (root_periods t) n ≡ false) → all_rounds t es now ≡ all_rounds t es later
rounds_still t es now later h none =
    let whole : now + (later - now) ≡ later = omega (arith, h) in
    ap (map (round_of t es)) (starts_still (root_periods t) now (later - now) (λ n g k. none n g (omega (arith, k, h))) ∙ ap (starts_before t) whole)
