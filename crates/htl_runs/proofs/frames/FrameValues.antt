-- The value half over a whole instant of a run by frames, records included.
use Rattle.std.proofs.Common.{◌≡◌, ℕ, zero, suc, ◌+◌, ◌-◌, ◌≤◌, ◌<◌, Bool, true, false, cond, ◌&&◌, ◌||◌, ltb, List, [], ◌∷◌, slice_get, Option, Some, None, refl, sym, ap, ◌∙◌, subst, arith, inl, inr}
use mathlib.Core.Path.{fun_ext}
use Rattle.htl_runs.proofs.Words.{ltb-true, lt-ltb, and_right, cases_lt, Event, Inv, Tables, AreInRange, KeptApart, state, before, Job, Left, job_at, is_position, Content, completed, Rises, count_left_before, done_by, counted, not_some, Now, present_finished, finished_at, AreFrames, frame_records, next_by_frames, complete_at, complete_by, run_records, finished_in, InvStands, ValuesFollow, HasPlaces, HasReadInputs, Ready, and_also, finish_more, job_is}
use Rattle.htl_runs.proofs.{values.InstantWorlds.follows_on, values.InstantWorlds.after_shape, records.SMachineInstants.record_there, records.SMachineInstants.count_within, frames.FrameSteps.finished_carried}
use Rattle.htl_runs.proofs.{values.FinishedOutputs.finish_follows, values.FinishedOutputs.completed_shape, frames.OwedJobs.is_ready, frames.OwedJobs.reads_to, frames.OwedJobs.completes, records.DoneBefore.before_count}

-- a later offset has more records before it
pub count_grows : (d e : ℕ) (ls : List Left) → d ≤ e → count_left_before d ls ≤ count_left_before e ls
count_grows d e [] h = omega arith
count_grows d e (l ∷ ls) h = grind (arith, lt-ltb, ltb-true, count_grows d e ls h)

-- the records that aren't left before an offset are left then or later
from_count : (e : ℕ) (ls : List Left) (k : ℕ) (l : Left) → Rises 0 ls → count_left_before e ls ≤ k → slice_get ls k ≡ Some l → e ≤ l.at
from_count e ls k l rises few at = elim (cases_lt l.at e) [ inl b ↦ absurd (omega (arith, few, counted 0 e ls k l rises at b)) | inr b ↦ b ]

module _ (t : Tables) (range : AreInRange t) (kept : KeptApart t 12) (es : List Event) (now : ℕ → Now) (frames : AreFrames t es now) where
  module _ (n : ℕ) where
    abbrev frame : ℕ
    frame = (now n).frame

    abbrev jobs : List Job
    jobs = (now n).jobs

    abbrev ls : List Left
    ls = (now n).walk

    abbrev finished_by : ℕ → ℕ → Bool
    finished_by k i = finished_in jobs (done_by ls k) i

    -- one record that is left at the instant
    record_follows : (k : ℕ) (l : Left) (w : Content) → slice_get ls k ≡ Some l → n < frame + l.at → frame + l.at ≤ suc n → ValuesFollow t es (suc n) (finished_by k) w → HasPlaces t w
        → ValuesFollow t es (suc n) (finished_by (suc k)) (complete_by t jobs (Some l) w) × HasPlaces t (complete_by t jobs (Some l) w)
    record_follows k l w at fresh late f shape = by_finish l.finished refl l.position refl
      where
        -- a record that finishes nothing
        same : ((p : ℕ) → (is_position l.position p && l.finished) ≡ false) → finished_by (suc k) ≡ finished_by k
        same h = fun_ext (λ i. ap (λ (d : ℕ → Bool). finished_in jobs d i) (fun_ext (λ p. finish_more ls k p l at ∙ ap (λ b. done_by ls k p || b) (h p) ∙ or_false (done_by ls k p))))
          where
            or_false : (b : Bool) → (b || false) ≡ b
            or_false true = refl
            or_false false = refl

        by_finish : (b : Bool) → l.finished ≡ b → (o : Option ℕ) → l.position ≡ o
            → ValuesFollow t es (suc n) (finished_by (suc k)) (cond b (complete_at t jobs o w) w) × HasPlaces t (cond b (complete_at t jobs o w) w)
        by_finish false e o pos = (subst (λ z. ValuesFollow t es (suc n) z w) (sym (same (λ p. and_right (is_position l.position p) l.finished e))) f, shape)
        by_finish true e None pos =
            (subst (λ z. ValuesFollow t es (suc n) z w) (sym (same (λ p. ap (λ z. is_position z p && l.finished) pos))) f, shape)
        by_finish true e (Some p) pos =
            let c = completes t range kept (state t es n).stays frame n jobs ls (frames.jobs_so_far n) (frames.runs n) k p l at pos e fresh late in
            let i : (job_at jobs p).inv ≡ c.number = ap (λ (j : Job). j.inv) (job_is jobs p c.job.job c.job.at) ∙ c.job.inv in
            let g : ValuesFollow t es (suc n) (and_also c.number (finished_by k)) (completed t c.number w) =
            finish_follows t range kept es (suc n) (finished_by k) w f c.number c.start c.inv c.stands c.unfinished c.read _ c.order shape in (
              subst (λ z. ValuesFollow t es (suc n) (finished_by (suc k)) (completed t z w)) (sym i) (subst (λ z. ValuesFollow t es (suc n) z (completed t c.number w)) (sym c.later) g),
              completed_shape t (job_at jobs p).inv w shape,
            )

    -- so many records
    pub records_follow : (m k : ℕ) (w : Content) → count_left_before (suc n - frame) ls ≤ k → k + m ≤ count_left_before (suc (suc n) - frame) ls → ValuesFollow t es (suc n) (finished_by k) w → HasPlaces t w
        → ValuesFollow t es (suc n) (finished_by (k + m)) (run_records t jobs ls m k w) × HasPlaces t (run_records t jobs ls m k w)
    records_follow zero k w few h f shape = (subst (λ z. ValuesFollow t es (suc n) (finished_by z) w) (let e : k ≡ k + 0 = omega arith in e) f, shape)
    records_follow (suc m) k w few h f shape =
        let r = record_there ls k (omega (arith, count_within (suc (suc n) - frame) ls)) in
        let early : r.0.at < suc (suc n) - frame = before_count (suc (suc n) - frame) ls k r.0 (omega arith) r.1 in
        let fresh : suc n - frame ≤ r.0.at = from_count (suc n - frame) ls k r.0 (frames.runs n).rises few r.1 in
        let one = record_follows k r.0 w r.1 (omega (arith, fresh, frames.past n)) (omega (arith, early, frames.past n)) f shape in
        let rest = records_follow m (suc k) (complete_by t jobs (Some r.0) w) (omega (arith, few)) (omega arith) one.0 one.1 in
        let is : complete_by t jobs (slice_get ls k) w ≡ complete_by t jobs (Some r.0) w = ap (λ o. complete_by t jobs o w) r.1 in (
          subst (λ z. ValuesFollow t es (suc n) (finished_by z) (run_records t jobs ls m (suc k) (complete_by t jobs (slice_get ls k) w))) (let e : suc k + m ≡ k + suc m = omega arith in e)
              (subst (λ z. ValuesFollow t es (suc n) (finished_by (suc k + m)) (run_records t jobs ls m (suc k) z)) (sym is) rest.0),
          subst (λ z. HasPlaces t (run_records t jobs ls m (suc k) z)) (sym is) rest.1,
        )

  -- after the records of the instant
  pub records_done : (n : ℕ) (w : Content) → ValuesFollow t es n (present_finished now n) w → HasPlaces t w → ValuesFollow t es n (finished_at now n) (frame_records t now n w) × HasPlaces t (frame_records t now n w)
  records_done zero w f shape = (f, shape)
  records_done (suc n) w f shape =
      let g = now n in
      let a = count_left_before (suc n - g.frame) g.walk in
      let b = count_left_before (suc (suc n) - g.frame) g.walk in
      let more : a ≤ b = count_grows (suc n - g.frame) (suc (suc n) - g.frame) g.walk (omega arith) in
      let r = records_follow n (b - a) a w (omega arith) (omega (arith, more)) f shape in
      (subst (λ z. ValuesFollow t es (suc n) (finished_by n z) (frame_records t now (suc n) w)) (let e : a + (b - a) ≡ b = omega (arith, more) in e) r.0, r.1)

  -- who is finished before an instant has read all before it
  pub read_before : (n i : ℕ) (x : Inv) (s : ℕ) → InvStands t (before t es n).stays i x s → present_finished now n i ≡ true → HasReadInputs t n (present_finished now n) x s
  read_before zero i x s st fin = not_some (record { mode = x.mode; start = s }) st.in_round
  read_before (suc n) i x s st fin =
      let f = now n in
      reads_to t range kept (state t es n).stays f.frame n f.jobs f.walk (frames.jobs_so_far n) (frames.runs n) (suc n - f.frame) (suc n) i x s (omega (arith, frames.past n)) st fin

  pub all_ready : (n : ℕ) → Ready t es n (finished_at now n)
  all_ready zero = grind (arith, not_some)
  all_ready (suc n) =
      let f = now n in
      let r = is_ready t range kept (state t es n).stays f.frame n f.jobs f.walk (frames.jobs_so_far n) (frames.runs n) es (suc n) refl (omega (arith, frames.past n)) in
      subst (λ (z : ℕ). Ready t es (suc n) (finished_in f.jobs (done_by f.walk (count_left_before z f.walk)))) (let e : suc (suc n - f.frame) ≡ suc (suc n) - f.frame = omega (arith, frames.past n) in e) r

  -- the value half is carried over the whole instant
  pub values_carried : (n : ℕ) (w : Content) → ValuesFollow t es n (present_finished now n) w → HasPlaces t w
      → ValuesFollow t es (suc n) (present_finished now (suc n)) (next_by_frames t es now n w) × HasPlaces t (next_by_frames t es now n w)
  values_carried n w f shape =
      let r = records_done n w f shape in (
        follows_on t range kept es n (finished_at now n) (present_finished now (suc n)) (frame_records t now n w) r.0 r.1 (all_ready n) (finished_carried t es now range kept frames n),
        after_shape t range kept es n (finished_at now n) (present_finished now (suc n)) (frame_records t now n w) r.0 r.1 (all_ready n) (finished_carried t es now range kept frames n),
      )
  -- after the records, the writes and the sensors the world holds the values of the instant
