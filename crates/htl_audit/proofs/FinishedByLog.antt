-- What a legal log says of finished jobs: they have read all, and are finished when an output is due.
use Rattle.std.proofs.Common.{◌≡◌, ◌≤◌, ◌<◌, ℕ, suc, ◌+◌, Bool, true, false, cond, ◌&&◌, eqb, List, slice_get, Option, Some, None, refl, sym, ap, ap₂, ◌∙◌, arith}
use Rattle.htl_audit.proofs.Words.{eqb-true, eq-eqb, ne_eqb, and_from, and_parts, Event, Inv, Stay, KeptApart, state, before, stay_of, in_round, writer_from, AreInRange, Tables, mode_module, mode_period, is_concrete, Job, Content, AreTookWithin, InvStands, IsDue, IsPast, HasReadInputs, Ready, AreCarried, ValuesFollow, reads_before_release, end_before_writes, standing_at, Slice, ended, is_done_in, is_done_from, is_finished, HaveRounds, BeginningJobs, round_of, all_rounds, lies_in, ticks, job_length, is_done, IsLegal, none-some, same_Some, same_truth}
use Rattle.htl_model.specs.declared.parts.End.{End}
use Rattle.htl_model.specs.declared.parts.End.TheVariants as E
use Rattle.htl_model.specs.Meaning as meaning
use Rattle.htl_audit.proofs.{JobTests.item_found, JobTests.item_there, JobTests.IsJobOf, JobTests.job_found, Judging.Lies, Judging.lies, StandingJobs.HasJobFrom, StandingJobs.stands_job, StandingJobs.stands_fed, StandingJobs.same_start}
use Rattle.htl_audit.proofs.LegalLogs.{ended_less, ended_front, ended_all, ended_some, kept, ordered, never_more, window_done, waited}
use Rattle.htl_runs.proofs.values.DueWrites.{stands_round}

-- ---- whoever stands is finished where the slices of his job add up

module _ (t : Tables) (es : List Event) (stays : List (Option Stay)) (i s : ℕ) (x : Inv) (st : InvStands t stays i x s) where
  pub done_from : (lines : List Slice) → is_finished t es stays lines i ≡ is_done_in t es s lines i
  done_from lines =
      ap (λ (o : Option Inv). elim o as (λ _. Bool) [ Some y ↦ is_done_from t es lines i (meaning.round_start t stays y) | None ↦ false ]) st.known
      ∙ ap (is_done_from t es lines i) (stands_round t stays i s x st)

  module _ (j : HasJobFrom t es s i x) (lines : List Slice) where
    abbrev test : ℕ × Job → Bool
    test k = k.1.present && eqb k.1.inv i && is_done (round_of t es s) lines k

    adds_up : is_done_in t es s lines i ≡ eqb (ticks (round_of t es s) j.job lines) (job_length (round_of t es s) j.position)
    adds_up = same_truth _ _ there back
      where
        there : is_done_in t es s lines i ≡ true → eqb (ticks (round_of t es s) j.job lines) (job_length (round_of t es s) j.position) ≡ true
        there e =
            let f = item_found test 0 (round_of t es s).jobs e in
            let two = and_parts (f.1.present && eqb f.1.inv i) (is_done (round_of t es s) lines (0 + f.0, f.1)) f.3 in
            let one = and_parts f.1.present (eqb f.1.inv i) two.0 in
            let place : f.0 ≡ j.position = j.once f.0 f.1 f.2 one.0 (eqb-true f.1.inv i one.1) in
            let same : f.1 ≡ j.job = same_Some _ _ (sym f.2 ∙ ap (slice_get (round_of t es s).jobs) place ∙ j.at) in
            let number : 0 + f.0 ≡ j.position = omega (arith, place) in
            ap₂ (λ (k : Job) (p : ℕ). eqb (ticks (round_of t es s) k lines) (job_length (round_of t es s) p)) (sym same) (sym number) ∙ two.1

        back : eqb (ticks (round_of t es s) j.job lines) (job_length (round_of t es s) j.position) ≡ true → is_done_in t es s lines i ≡ true
        back e =
            item_there test 0 (round_of t es s).jobs j.position j.job j.at
            (and_from (j.job.present && eqb j.job.inv i) (is_done (round_of t es s) lines (0 + j.position, j.job))
            (and_from j.job.present (eqb j.job.inv i) j.present (eq-eqb j.job.inv i j.inv))
            (ap (λ (p : ℕ). eqb (ticks (round_of t es s) j.job lines) (job_length (round_of t es s) p)) (let z : 0 + j.position ≡ j.position = omega arith in z) ∙ e))

    pub finished_is : is_finished t es stays lines i ≡ eqb (ticks (round_of t es s) j.job lines) (job_length (round_of t es s) j.position)
    finished_is = done_from lines ∙ adds_up

-- whoever is finished stands
pub finished_stands : (t : Tables) (es : List Event) (stays : List (Option Stay)) (lines : List Slice) (i : ℕ) → is_finished t es stays lines i ≡ true → (x : Inv) × (s : ℕ) × InvStands t stays i x s
finished_stands t es stays lines i e = by (slice_get t.invs i) refl e
  where
    by_stay : (x : Inv) → slice_get t.invs i ≡ Some x → is_concrete t x ≡ true → (o : Option Stay) → stay_of stays (mode_module t x.mode) ≡ o → is_done_from t es lines i (in_round o x.mode) ≡ true → (x : Inv) × (s : ℕ) × InvStands t stays i x s
    by_stay x at con None there f = absurd (let z : ⊥ = cc in z)
    by_stay x at con (Some y) there f = by_mode (eqb y.mode x.mode) refl f
      where
        by_mode : (b : Bool) → eqb y.mode x.mode ≡ b → is_done_from t es lines i (cond b (Some y.start) None) ≡ true → (x : Inv) × (s : ℕ) × InvStands t stays i x s
        by_mode false g f = absurd (let z : ⊥ = cc in z)
        by_mode true g f =
            (x, y.start, record { known = at; concrete = con; in_round = there ∙ ap (λ (m : ℕ). Some (record { mode = m; start = y.start })) (eqb-true y.mode x.mode g) })

    by_concrete : (x : Inv) → slice_get t.invs i ≡ Some x → (b : Bool) → is_concrete t x ≡ b → is_done_from t es lines i (cond b (in_round (stay_of stays (mode_module t x.mode)) x.mode) None) ≡ true → (x : Inv) × (s : ℕ) × InvStands t stays i x s
    by_concrete x at false con f = absurd (let z : ⊥ = cc in z)
    by_concrete x at true con f = by_stay x at con (stay_of stays (mode_module t x.mode)) refl f

    by : (o : Option Inv) → slice_get t.invs i ≡ o → elim o as (λ _. Bool) [ Some y ↦ is_done_from t es lines i (meaning.round_start t stays y) | None ↦ false ] ≡ true → (x : Inv) × (s : ℕ) × InvStands t stays i x s
    by None at f = absurd (let z : ⊥ = cc in z)
    by (Some x) at f = by_concrete x at (is_concrete t x) refl f

-- what is finished counts for those that stand alone
pub alike : (t : Tables) (es : List Event) (now : ℕ) (f g : ℕ → Bool) (w : Content) → ((i : ℕ) (x : Inv) (s : ℕ) → InvStands t (before t es now).stays i x s → f i ≡ g i) → ValuesFollow t es now f w → ValuesFollow t es now g w
alike t es now f g w same follows =
    record {
      values = follows.values;
      inputs = λ i x s k c n st open_yet at past. follows.inputs i x s k c n st (same i x s st ∙ open_yet) at past;
      outputs = λ i x s k st done at. follows.outputs i x s k st (same i x s st ∙ done) at;
    }

-- ---- a legal log

module _ (t : Tables) (range : AreInRange t) (kept16 : KeptApart t 16) (rounds : HaveRounds t) (es : List Event) (within : AreTookWithin t es) (end : ℕ) (log : List Slice) (legal : IsLegal t es end log) where
  abbrev all : List BeginningJobs
  all = all_rounds t es (suc end)

  abbrev finished : ℕ → ℕ → ℕ → Bool
  finished now m i = is_finished t es (before t es now).stays (ended m log) i

  -- ---- the job of an invocation that stands at an instant

  module _ (n : ℕ) (soon : n < end) (i s : ℕ) (x : Inv) (st : InvStands t (state t es n).stays i x s) where
    abbrev r : BeginningJobs
    r = round_of t es s

    pub own_job : HasJobFrom t es s i x
    own_job = stands_job t range kept16 rounds es n i s x st within

    began : s ≤ n
    began = (standing_at t range es n).past (mode_module t x.mode) (record { mode = x.mode; start = s }) st.in_round

    pub job_of : (p : ℕ) (k : Job) → slice_get (round_of t es s).jobs p ≡ Some k → IsJobOf all r p k
    job_of p k at = let m = own_job.known (suc end) (omega (arith, began, soon)) in record { number = m.0; at = m.1; job = at }

    pub never : (m : ℕ) → ticks r own_job.job (ended m log) ≤ job_length r own_job.position
    never m = omega (arith, ended_less r own_job.job m log, never_more all (suc end) log legal r own_job.position own_job.job (job_of own_job.position own_job.job own_job.at))

    -- a line of the invocation that ends behind the instant is of this job
    pub lies_own : (k : ℕ) (y : Slice) → slice_get log k ≡ Some y → y.to ≡ suc n → y.inv ≡ i → lies_in r own_job.job y ≡ true
    lies_own k y at to inv =
        let own = kept all (suc end) log legal k y at in
        let f = job_found (λ r j. lies_in r j.1 y) all own.inside in
        let l = lies f.round f.job y f.passes in
        let round : f.round ≡ r =
        same_start t range kept16 rounds es n i s x st (suc end) f.is.number f.round f.is.at (omega (arith, l.from, own.room, to)) f.position f.job f.is.job l.present (sym l.inv ∙ inv) (omega (arith, l.to, to)) in
        let there : slice_get (round_of t es s).jobs f.position ≡ Some f.job = ap (λ (z : BeginningJobs). slice_get z.jobs f.position) (sym round) ∙ f.is.job in
        let place = own_job.once f.position f.job there l.present (sym l.inv ∙ inv) in
        let same : f.job ≡ own_job.job = same_Some _ _ (sym there ∙ ap (slice_get (round_of t es s).jobs) place ∙ own_job.at) in
        ap₂ (λ (z : BeginningJobs) (k : Job). lies_in z k y) (sym round) (sym same) ∙ f.passes

    -- who has a line has read all by its end, and what he reads from is finished
    pub has_read : (k : ℕ) (y : Slice) → slice_get log k ≡ Some y → lies_in r own_job.job y ≡ true → y.to ≤ suc n → (m : ℕ) → y.from < m → HasReadInputs t (suc n) (finished (suc n) m) x s
    has_read k y at lie to m from = record { comms = λ q e read. by_end q e read; ports = λ q a w o read writes. by_port q a w o read writes }
      where
        l : Lies (round_of t es s) own_job.job y
        l = lies r own_job.job y lie

        room : y.from < y.to
        room = (kept all (suc end) log legal k y at).room

        by_end : (q : ℕ) (e : End) → slice_get x.reads q ≡ Some e → IsPast t s (suc n) e
        by_end q (E.Comm c d) read = omega (arith, reads_before_release t 0 x.reads q c d read, own_job.release, l.from, room, to)
        by_end q (E.Port a) read = tt

        by_port : (q a w o : ℕ) → slice_get x.reads q ≡ Some (E.Port a) → writer_from x.mode a 0 t.invs ≡ Some (w, o) → finished (suc n) m w ≡ true
        by_port q a w o read writes =
            let fed = stands_fed t range kept16 rounds es n i s x st q a w o read writes in
            let other = stands_job t range kept16 rounds es n w s fed.writer fed.stands within in
            let before = fed.before own_job.position other.position own_job.job other.job own_job.at other.at own_job.present other.present own_job.inv other.inv in
            let all_there = waited all (suc end) log legal r own_job.position own_job.job (job_of own_job.position own_job.job own_job.at) k y at lie other.position other.job other.at before other.present in
            let front = ended_front r other.job m k log (λ d z less there. omega (arith, (ordered all (suc end) log legal d k z y less there at).0, from)) in
            let most = never_more all (suc end) log legal r other.position other.job (job_of other.position other.job other.at) in
            let whole : ticks r other.job (ended m log) ≡ job_length r other.position = omega (arith, all_there, front, ended_less r other.job m log, most) in
            finished_is t es (state t es n).stays w s fed.writer fed.stands other (ended m log) ∙ eq-eqb (ticks r other.job (ended m log)) (job_length r other.position) whole

  -- ---- what is owed at an instant

  pub all_ready : (n : ℕ) → n < end → Ready t es (suc n) (finished (suc n) (suc (suc n)))
  all_ready n soon =
      record {
        in_time = λ i k c due. in_time i k c due;
        after_reads = λ i x s st fin. after_reads i x s st fin;
      }
    where
      in_time : (i k c : ℕ) → IsDue t (state t es n).stays (suc n) i k c → finished (suc n) (suc (suc n)) i ≡ true
      in_time i k c due =
          let s = due.start in
          let r = round_of t es due.start in
          let j = own_job n soon i due.start due.inv due.stands in
          let early : due.start + j.job.end ≤ suc n = omega (arith, j.end, end_before_writes t (mode_period t due.inv.mode) due.inv.writes k c due.instance due.end, due.at) in
          let done = window_done all (suc end) log legal r j.position j.job (job_of n soon i due.start due.inv due.stands j.position j.job j.at) j.present (omega (arith, early, soon)) in
          let whole = ended_all r j.job (suc (suc n)) log (λ d y at lie. omega (arith, (lies r j.job y lie).to, early)) in
          finished_is t es (state t es n).stays i due.start due.inv due.stands j (ended (suc (suc n)) log)
          ∙ eq-eqb (ticks r j.job (ended (suc (suc n)) log)) (job_length r j.position) (whole ∙ done)

      after_reads : (i : ℕ) (x : Inv) (s : ℕ) → InvStands t (state t es n).stays i x s → finished (suc n) (suc (suc n)) i ≡ true → HasReadInputs t (suc n) (finished (suc n) (suc (suc n))) x s
      after_reads i x s st fin =
          let r = round_of t es s in
          let j = own_job n soon i s x st in
          let whole = eqb-true (ticks r j.job (ended (suc (suc n)) log)) (job_length r j.position) (sym (finished_is t es (state t es n).stays i s x st j (ended (suc (suc n)) log)) ∙ fin) in
          let f = ended_some r j.job (suc (suc n)) log (omega (arith, whole, j.some)) in
          let room = (kept all (suc end) log legal f.0 f.1 f.2).room in
          has_read n soon i s x st f.0 f.1 f.2 f.4 (omega (arith, f.3)) (suc (suc n)) (omega (arith, f.3, room))

  pub none_ready : Ready t es 0 (finished 0 1)
  none_ready =
      record {
        in_time = λ i k c due. absurd (none-some (record { mode = due.inv.mode; start = due.start }) due.stands.in_round);
        after_reads = λ i x s st fin. absurd (none-some (record { mode = x.mode; start = s }) st.in_round);
      }

  -- who stands on has what he had, and none of a round that begins is finished
  pub all_carried : (now : ℕ) → AreCarried t es now (finished now (suc now)) (finished (suc now) (suc now))
  all_carried now =
      record {
        kept = λ i x s a b. done_from t es (state t es now).stays i s x b (ended (suc now) log) ∙ sym (done_from t es (before t es now).stays i s x a (ended (suc now) log));
        fresh = fresh;
      }
    where
      fresh : (i : ℕ) (x : Inv) → InvStands t (state t es now).stays i x now → finished (suc now) (suc now) i ≡ false
      fresh i x st =
          let r = round_of t es now in
          let j = stands_job t range kept16 rounds es now i now x st within in
          finished_is t es (state t es now).stays i now x st j (ended (suc now) log)
          ∙ ne_eqb (ticks r j.job (ended (suc now) log)) (job_length r j.position)
          (λ e.
          let f = ended_some r j.job (suc now) log (omega (arith, e, j.some)) in
          absurd (omega (arith, (lies r j.job f.1 f.4).from, (kept all (suc end) log legal f.0 f.1 f.2).room, f.3)))
