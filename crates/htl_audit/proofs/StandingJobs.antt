-- The job of an invocation that stands: its round is one of the audit's, it has one, and it follows those that it reads from.
use Rattle.std.proofs.Common.{◌≡◌, ◌≤◌, ◌<◌, inl, inr, ℕ, ◌+◌, ◌*◌, ◌/◌, ◌%◌, true, List, length, slice_get, Some, option_map, sym, ap, ap₂, ◌∙◌, arith}
use Rattle.htl_audit.proofs.Words.{div-add-mod, mod-lt, mul-mod_right, eq-eqb, slice_get_within, same_Some, Event, Inv, Stay, KeptApart, root_periods, state, stay_of, writer_from, feeds, AreInRange, Runs, root_modules, Tables, mode_module, mode_period, release, window_end, frame_some, Job, SInstr, AreFeasible, precedes, AreTookWithin, modes_at, IsFeasibleRun, map_at, some_time, own_starts, since, rank, now_of, InvStands, Orders, entry_is, writer_is, writer_stands, in_order, fed, feasible_runs, standing_at, HaveRounds, BeginningJobs, round_of, starts_before, all_rounds, job_length, below_start, cases_less_more}
use Rattle.htl_model.specs.declared.parts.End.TheVariants as E
use Rattle.htl_audit.proofs.{Beginning.multiples, Begun.some_took, Growing.round_is, Renewing.runs_is, Rounds.first_rules}
use Rattle.htl_audit.proofs.RoundJobs.{IsFresh, begins_is, fresh, fresh_start, has_fresh, once, precedes_is}

-- the job of an invocation in the rounds from s
pub record HasJobFrom (t : Tables) (es : List Event) (s i : ℕ) (x : Inv) : Type 0 where
  pub position : ℕ
  pub job : Job
  pub at : slice_get (round_of t es s).jobs position ≡ Some job
  pub present : job.present ≡ true
  pub inv : job.inv ≡ i
  pub release : job.release ≡ release t x
  pub end : job.end ≡ window_end t x
  pub known : (now : ℕ) → s < now → (m : ℕ) × (slice_get (all_rounds t es now) m ≡ Some (round_of t es s))
  -- it takes some time
  pub some : 1 ≤ job_length (round_of t es s) position
  pub once : (q : ℕ) (h : Job) → slice_get (round_of t es s).jobs q ≡ Some h → h.present ≡ true → h.inv ≡ i → q ≡ position

module _ (t : Tables) (range : AreInRange t) (kept : KeptApart t 16) (rounds : HaveRounds t) (es : List Event) where
  -- rounds that begin at an instant are among those of the audit
  pub round_there : (now s : ℕ) (p : ℕ) (j : Job) → IsFresh t range kept rounds es s p j → s < now → (m : ℕ) × (slice_get (all_rounds t es now) m ≡ Some (round_of t es s))
  round_there now s p j f early =
      let m = below_start (root_periods t) now s early (fresh_start t range kept rounds es s p j f) in
      (m.0, map_at (round_of t es) (starts_before t now) m.0 s m.1)

  module _ (n i s : ℕ) (x : Inv) (st : InvStands t (state t es n).stays i x s) where
    period_some : 0 < mode_period t x.mode
    period_some = some_time t range (first_rules t kept) x.mode ((standing_at t range es n).real (mode_module t x.mode) (record { mode = x.mode; start = s }) st.in_round)

    -- its round began at a whole period
    pub own_start : s ≡ mode_period t x.mode * (n / mode_period t x.mode)
    own_start = own_starts t range (first_rules t kept) es n (mode_module t x.mode) (record { mode = x.mode; start = s }) st.in_round

    pub whole : s % mode_period t x.mode ≡ 0
    whole = ap (λ z. z % mode_period t x.mode) own_start ∙ mul-mod_right (mode_period t x.mode) (n / mode_period t x.mode)

    -- its mode runs since then
    pub stood : stay_of (state t es s).stays (mode_module t x.mode) ≡ Some (record { mode = x.mode; start = s })
    stood = since t range (first_rules t kept) es n (mode_module t x.mode) (record { mode = x.mode; start = s }) st.in_round

    runs : Runs t (modes_at t es s) x.mode
    runs = entry_is t es s (mode_module t x.mode) ∙ ap (option_map (λ (z : Stay). z.mode)) stood

    own : (p : ℕ) × (j : Job) × (slice_get (round_of t es s).jobs p ≡ Some j) × (j.present ≡ true) × (j.inv ≡ i)
    own =
        has_fresh t range kept rounds es s i (runs_is t (modes_at t es s) i x st.known st.concrete runs)
        (begins_is t s i x st.known ∙ eq-eqb (s % mode_period t x.mode) 0 whole)

    pub stands_job : AreTookWithin t es → HasJobFrom t es s i x
    stands_job within =
        let f = fresh t range kept rounds es s own.0 own.1 own.2 own.3 in
        let same : f.inv ≡ x = same_Some _ _ (sym f.known ∙ ap (slice_get t.invs) own.4 ∙ st.known) in
        record {
          position = own.0;
          job = own.1;
          at = own.2;
          present = own.3;
          inv = own.4;
          release = f.release ∙ ap (release t) same;
          end = f.end ∙ ap (window_end t) same;
          known = λ now early. round_there now s own.0 own.1 f early;
          some = omega (arith, f.length_is, some_took t range es within own.1.inv (s + own.1.release) f.inv f.known);
          once = λ q h at here inv. once t range kept rounds es s q own.0 h own.1 at own.2 here own.3 (inv ∙ sym own.4);
        }

    -- the writer of a port stands in the round, and its job precedes the reader's
    pub record IsFed (w : ℕ) : Type 0 where
      pub writer : Inv
      pub stands : InvStands t (state t es n).stays w writer s
      pub before : (p q : ℕ) (k h : Job) → slice_get (round_of t es s).jobs p ≡ Some k → slice_get (round_of t es s).jobs q ≡ Some h → k.present ≡ true → h.present ≡ true → k.inv ≡ i → h.inv ≡ w → precedes q k ≡ true

    pub stands_fed : (k a w o : ℕ) → slice_get x.reads k ≡ Some (E.Port a) → writer_from x.mode a 0 t.invs ≡ Some (w, o) → IsFed w
    stands_fed k a w o at wr =
        let d = writer_is t x.mode a w o wr in
        record {
          writer = d.inv;
          stands = writer_stands t range (first_rules t kept) (state t es n).stays i s x k a w o st at d;
          before = λ p q m h at_p at_q here there inv feeder.
              precedes_is t range kept rounds es s p q m h at_p at_q here there ∙ ap₂ (feeds t) feeder inv ∙ fed t i w k a o x st.known at d;
        }

    -- a round of the audit in which a job of the invocation has a window that ends behind the instant is its own
    pub same_start : (now m : ℕ) (r : BeginningJobs) → slice_get (all_rounds t es now) m ≡ Some r → r.start ≤ n → (p : ℕ) (j : Job) → slice_get r.jobs p ≡ Some j → j.present ≡ true → j.inv ≡ i → n < r.start + j.end → r ≡ round_of t es s
    same_start now m r at began p j job here inv late =
        let a = round_is t es now m r at in
        let f = fresh t range kept rounds es a.0 p j (ap (λ (z : BeginningJobs). slice_get z.jobs p) a.2 ∙ job) here in
        let same : f.inv ≡ x = same_Some _ _ (sym f.known ∙ ap (slice_get t.invs) inv ∙ st.known) in
        let start : a.0 ≡ r.start = ap (λ (z : BeginningJobs). z.start) a.2 in
        let q = mode_period t x.mode in
        let first : a.0 % q ≡ 0 = ap (λ (z : Inv). a.0 % mode_period t z.mode) (sym same) ∙ f.whole in
        let within : j.end ≤ q = omega (arith, f.within, ap (λ (z : Inv). mode_period t z.mode) same) in
        let rest : q * (n / q) + n % q ≡ n = div-add-mod n q in
        let small : n % q < q = mod-lt n period_some in
        let one : a.0 ≡ s = elim (cases_less_more a.0 s) [
          | inl sooner ↦ absurd (omega (arith, multiples q a.0 s first whole sooner, own_start, rest, late, start, within))
          | inr (inl later) ↦ absurd (omega (arith, multiples q s a.0 whole first later, own_start, rest, small, began, start))
          | inr (inr e) ↦ e
        ] in
        sym a.2 ∙ ap (round_of t es) one

    -- who writes a port comes before who reads it, in a run whose lists are feasible
    pub stands_order : (lists : List (List SInstr)) → AreFeasible t lists → AreTookWithin t es → (r : ℕ → ℕ) × Orders t x.mode r
    stands_order lists feasible within =
        let f = fresh t range kept rounds es s own.0 own.1 own.2 own.3 in
        let some : 0 < length (root_modules t) = omega (arith, slice_get_within (root_modules t) f.unit.number f.unit.unit f.unit.at) in
        let run : IsFeasibleRun t lists es = record { range = range; kept = kept; within = within; modules = some; ticks = frame_some t range some; accepted = feasible } in
        let frames = feasible_runs t lists es run in
        let now = now_of t lists es n in
        (rank now.jobs now.walk, in_order t range (first_rules t kept) (state t es n).stays now.frame n now.jobs now.walk (frames.jobs_so_far n) (frames.runs n) x.mode s st.in_round)
