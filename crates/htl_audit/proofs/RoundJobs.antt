-- The jobs of the rounds that begin at an instant: of whom they are, and who has one.
use Rattle.std.proofs.Common.{◌≡◌, ℕ, ◌+◌, ◌%◌, ◌≤◌, ◌<◌, Bool, true, false, eqb, List, map, Option, Some, None, refl, sym, ◌∙◌, ap, arith}
use Rattle.htl_audit.proofs.Words.{slice_get, flat_map, list_any, eqb-true, eq-eqb, and_parts, get_or_from_slice_get, Event, Inv, chosen, KeptApart, root_periods, begins, unit_period, feeds, feeds_at, is_read_from, AreInRange, Runs, IsSelection, root_modules, Tables, is_concrete, mode_period, release, window_end, Job, absent_job, is_fed_by, job_of, precedes, preds_of, running_invs, took, modes_at, mapped, map_at, states_are_selections, begins_by, HaveRounds, beginning, round_of, release_at, end_at, begins_round, inv_runs_in}
use Rattle.htl_audit.specs.Legal as rules
use Rattle.htl_audit.proofs.{Growing.round_job, Growing.length_is, Growing.placed, Growing.job_parts, Having.IsRootAt, Having.whose_round, Having.has_position_of, Having.one_place, Renewing.runs_of}

made : (t : Tables) (st : List (Option ℕ)) (k : ℕ) (o : Option Inv) → slice_get t.invs k ≡ o → job_of t st (Some k) ≡ elim o as (λ _. Job) [ None ↦ absent_job | Some x ↦ placed t st k x ]
made t st k o at = ap (λ (o : Option Inv). elim o as (λ _. Job) [ None ↦ absent_job | Some x ↦ placed t st k x ]) at

-- a round of an invocation begins at the multiples of its mode's period
pub begins_is : (t : Tables) (s i : ℕ) (x : Inv) → slice_get t.invs i ≡ Some x → begins_round t s i ≡ eqb (s % mode_period t x.mode) 0
begins_is t s i x at = ap (λ (o : Option Inv). elim o as (λ _. Bool) [ Some y ↦ eqb (s % mode_period t y.mode) 0 | None ↦ false ]) at

module _ (t : Tables) (range : AreInRange t) (kept : KeptApart t 16) (rounds : HaveRounds t) (es : List Event) (s : ℕ) where
  abbrev whose : List (Option ℕ)
  whose = map (chosen t (modes_at t es s)) (flat_map (running_invs t (modes_at t es s)) (beginning t s))

  abbrev selection : IsSelection t (modes_at t es s)
  selection = states_are_selections t range es s

  -- a job of the rounds that begin at s
  pub record IsFresh (p : ℕ) (j : Job) : Type 0 where
    pub inv : Inv
    pub known : slice_get t.invs j.inv ≡ Some inv
    pub concrete : is_concrete t inv ≡ true
    pub runs : Runs t (modes_at t es s) inv.mode
    pub whole : s % mode_period t inv.mode ≡ 0
    pub release : j.release ≡ release t inv
    pub end : j.end ≡ window_end t inv
    pub release_is : j.release ≡ release_at t j.inv
    pub end_is : j.end ≡ end_at t j.inv
    pub room : j.release < j.end
    pub within : j.end ≤ mode_period t inv.mode
    pub length_is : rules.job_length (round_of t es s) p ≡ took t es j.inv (s + j.release)
    pub unit : IsRootAt t range kept (modes_at t es s) (states_are_selections t range es s) s
    pub period : mode_period t inv.mode ≡ unit_period t unit.unit
    pub stands : slice_get (map (chosen t (modes_at t es s)) (flat_map (running_invs t (modes_at t es s)) (beginning t s))) p ≡ Some (Some j.inv)
    pub job_is : job_of t (map (chosen t (modes_at t es s)) (flat_map (running_invs t (modes_at t es s)) (beginning t s))) (Some j.inv) ≡ j

  pub fresh : (p : ℕ) (j : Job) → slice_get (round_of t es s).jobs p ≡ Some j → j.present ≡ true → IsFresh p j
  fresh p j at here =
      let o = mapped (job_of t whose) whose p j at in
      let who : o.0 ≡ Some j.inv = (job_parts t whose o.0 j o.2 here).4 in
      let stands : slice_get whose p ≡ Some (Some j.inv) = o.1 ∙ ap (λ z. Some z) who in
      let r = whose_round t range kept (modes_at t es s) selection s p j.inv stands in
      let b = r.begins in
      let x = round_job t (modes_at t es s) (beginning t s) p j at here in
      let same : x.0 ≡ b.inv = one x.0 b.inv (sym x.1 ∙ b.known) in
      let w = rounds.windows j.inv x.0 x.1 in
      record {
        inv = b.inv;
        known = b.known;
        concrete = b.concrete;
        runs = b.runs;
        whole = b.whole;
        release = x.2 ∙ ap (release t) same;
        end = x.3 ∙ ap (window_end t) same;
        release_is = x.2 ∙ sym (ap (λ (y : Option Inv). elim y as (λ _. ℕ) [ Some z ↦ release t z | None ↦ 0 ]) x.1);
        end_is = x.3 ∙ sym (ap (λ (y : Option Inv). elim y as (λ _. ℕ) [ Some z ↦ window_end t z | None ↦ 0 ]) x.1);
        room = omega (arith, x.2, x.3, w.0);
        within = omega (arith, x.3, w.1, ap (λ (z : Inv). mode_period t z.mode) same);
        length_is = length_is t es s p (round_of t es s).jobs j at;
        unit = r.unit;
        period = r.period;
        stands = stands;
        job_is = ap (job_of t whose) (sym who) ∙ o.2;
      }
    where
      one : (x y : Inv) → Some x ≡ Some y → x ≡ y
      one x y e = cc

  pub fresh_begins : (p : ℕ) (j : Job) → IsFresh p j → begins_round t s j.inv ≡ true
  fresh_begins p j f = begins_is t s j.inv f.inv f.known ∙ eq-eqb (s % mode_period t f.inv.mode) 0 f.whole

  -- rounds begin there
  pub fresh_start : (p : ℕ) (j : Job) → IsFresh p j → begins (root_periods t) s ≡ true
  fresh_start p j f = begins_by t (root_modules t) f.unit.number f.unit.unit s f.unit.at f.unit.whole

  -- who is concrete, runs and begins a round has one
  pub has_fresh : (i : ℕ) → inv_runs_in t (modes_at t es s) i ≡ true → begins_round t s i ≡ true → (p : ℕ) × (j : Job) × (slice_get (round_of t es s).jobs p ≡ Some j) × (j.present ≡ true) × (j.inv ≡ i)
  has_fresh i e begun =
      let x = runs_of t (modes_at t es s) i e in
      let whole : s % mode_period t x.0.mode ≡ 0 = eqb-true (s % mode_period t x.0.mode) 0 (sym (begins_is t s i x.0 x.1) ∙ begun) in
      let p = has_position_of t range kept (modes_at t es s) selection s i (record { inv = x.0; known = x.1; concrete = x.2; runs = x.3; whole = whole }) in
      let job : slice_get (round_of t es s).jobs p.0 ≡ Some (placed t whose i x.0) = map_at (job_of t whose) whose p.0 (Some i) p.1 ∙ ap (λ z. Some z) (made t whose i (Some x.0) x.1) in
      (p.0, placed t whose i x.0, job, refl, refl)

  -- and one only
  pub once : (p q : ℕ) (j h : Job) → slice_get (round_of t es s).jobs p ≡ Some j → slice_get (round_of t es s).jobs q ≡ Some h → j.present ≡ true → h.present ≡ true → j.inv ≡ h.inv → p ≡ q
  once p q j h a b here there same =
      let f = fresh p j a here in
      let g = fresh q h b there in
      one_place t range kept (modes_at t es s) selection s p q h.inv (f.stands ∙ ap (λ (y : ℕ). Some (Some y)) same) g.stands

  -- a job precedes another where it feeds it
  pub precedes_is : (p q : ℕ) (j h : Job) → slice_get (round_of t es s).jobs p ≡ Some j → slice_get (round_of t es s).jobs q ≡ Some h → j.present ≡ true → h.present ≡ true → precedes q j ≡ feeds t h.inv j.inv
  precedes_is p q j h a b here there =
      let f = fresh p j a here in
      let g = fresh q h b there in
      ap (precedes q) (sym f.job_is) ∙ preds_of t whose j.inv f.inv f.known q
      ∙ ap (is_fed_by t j.inv) (get_or_from_slice_get whose q (Some h.inv) None g.stands)

-- what feeds an invocation is of its mode, so their rounds begin together
pub feeds_mode : (t : Tables) (a b : ℕ) (y : Inv) → feeds t a b ≡ true → slice_get t.invs b ≡ Some y → (x : Inv) × (slice_get t.invs a ≡ Some x) × (x.mode ≡ y.mode)
feeds_mode t a b y fed at = by (slice_get t.invs a) refl (sym (ap (feeds_at (slice_get t.invs a)) at) ∙ fed)
  where
    by : (o : Option Inv) → slice_get t.invs a ≡ o → feeds_at o (Some y) ≡ true → (x : Inv) × (slice_get t.invs a ≡ Some x) × (x.mode ≡ y.mode)
    by None here e = absurd (let z : ⊥ = cc in z)
    by (Some x) here e = (x, here, eqb-true x.mode y.mode (and_parts (eqb x.mode y.mode) (list_any (is_read_from x.writes) y.reads) e).0)

pub feeds_begin : (t : Tables) (s a b : ℕ) (y : Inv) → feeds t a b ≡ true → slice_get t.invs b ≡ Some y → begins_round t s a ≡ begins_round t s b
feeds_begin t s a b y fed at =
    let x = feeds_mode t a b y fed at in
    begins_is t s a x.0 x.1 ∙ ap (λ m. eqb (s % mode_period t m) 0) x.2 ∙ sym (begins_is t s b y at)
