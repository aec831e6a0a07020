-- The releases of an instant: who is released now isn't done yet, so the read phase tells exactly the flags that the list asks for.
use Rattle.std.proofs.Common.{◌≡◌, ◌≢◌, ℕ, zero, suc, ◌+◌, ◌-◌, ◌≤◌, ◌<◌, Bool, true, false, cond, ◌&&◌, eqb, is_some, List, [], ◌∷◌, length, get_or, slice_get, set, take, Option, Some, None, refl, sym, ap, ap₂, ◌∙◌, arith, inl, inr, length-append}
use Rattle.htl_runs.proofs.Words.{eqb-true, set-get_or, slice_get_within, same_Some, Event, Tables, AreInRange, state, Job, Point, Left, job_at, last_point, finish, is_position, Finished, Round, state_by, state_of, ECode, Requirement, Exactly, ModeReads, phase_path, all_reads, count_left_before, done_by, Turn, turn_walk, records_so_far, left_before, AreTurns, IsListed, position_from, SMachineAt, raise_at, raise_want, raise_all, made_ready, released_to, s_machine_replay, s_machine_want, s_machine_all, standing_at, not_some, done_some, job_is, length-walk}
use Rattle.htl_ecode.specs.declared.instr.EInstr.TheVariants as I
use Rattle.htl_refine.proofs.DoneRecords as records
use Rattle.htl_runs.proofs.{frames.JobWindows.position_some, records.SMachineInstants.count_within, lists.ListValues.take_front, values.BlockContents.AsksFor, instants.DueReleases.release_of, instants.SMachineSteps.with_flags}
use Rattle.htl_runs.proofs.instants.ReadPhase.{read_phase_acts}

-- ---- flags

released_is : (i : ℕ) (r : Round) → ((q : ℕ) → position_from 0 r.jobs i ≡ Some q → state_of r q ≢ Finished) → released_to i r ≡ with_flags r (raise_at (position_from 0 r.jobs i) r.released)
released_is i r open_yet = by_place (position_from 0 r.jobs i) refl
  where
    by_state : (p : ℕ) (a b c : Bool) → a ≡ true → get_or r.released p false ≡ c → (state_by a b c ≢ Finished) → made_ready (state_by a b c) r p ≡ with_flags r (set r.released p true)
    by_state p false b c e g f = absurd (let z : ⊥ = cc in z)
    by_state p true true c e g f = absurd (f refl)
    by_state p true false true e g f = sym (ap (λ bs. with_flags r bs) (ap (λ v. set r.released p v) (sym g) ∙ set-get_or r.released p false))
    by_state p true false false e g f = refl

    by_place : (o : Option ℕ) → position_from 0 r.jobs i ≡ o → elim o as (λ _. Round) [ Some p ↦ made_ready (state_of r p) r p | None ↦ r ] ≡ with_flags r (raise_at o r.released)
    by_place None e = refl
    by_place (Some p) e = grind (arith, position_some, by_state, job_is, open_yet)

want_is : (w : Requirement) (r : Round) → ((i q : ℕ) → w ≡ Exactly (I.Release i) → position_from 0 r.jobs i ≡ Some q → state_of r q ≢ Finished) → s_machine_want w r ≡ with_flags r (raise_want r.jobs w r.released)
want_is (Exactly (I.Release i)) r h = released_is i r (λ q e. h i q refl e)
want_is _ r h = refl

-- who is asked for isn't done
abbrev pub AreOpen : List Requirement → Round → Type 0
AreOpen ws r = (i q : ℕ) → AsksFor (I.Release i) ws → position_from 0 r.jobs i ≡ Some q → state_of r q ≢ Finished

finished_by_work : (a b c d : Bool) → state_by a b c ≡ Finished → state_by a b d ≡ Finished
finished_by_work false b c d e = absurd (let z : ⊥ = cc in z)
finished_by_work true true c d e = refl
finished_by_work true false true d e = absurd (let z : ⊥ = cc in z)
finished_by_work true false false d e = absurd (let z : ⊥ = cc in z)

pub flags_are : (ws : List Requirement) (r : Round) → AreOpen ws r → s_machine_all ws r ≡ with_flags r (raise_all r.jobs ws r.released)
flags_are [] r h = refl
flags_are (w ∷ ws) r h =
    let bs = raise_want r.jobs w r.released in
    ap (s_machine_all ws) (want_is w r (λ i q e at. h i q (inl e) at))
    ∙ flags_are ws (with_flags r bs)
    (λ i q asks at done. h i q (inr asks) at (finished_by_work (job_at r.jobs q).present (eqb (get_or r.point.left q 0) 0) (get_or bs q false) (get_or r.released q false) done))

-- ---- who is released now isn't done

front_more : (ls : List Left) (k m q f : ℕ) → k ≤ m → finish (take k ls) q ≡ Some f → finish (take m ls) q ≡ Some f
front_more ls zero m q f h e = not_some f e
front_more [] (suc k) m q f h e = not_some f e
front_more (l ∷ ls) (suc k) zero q f h e = absurd (omega (arith, h))
front_more (l ∷ ls) (suc k) (suc m) q f h e = by_test (is_position l.position q && l.finished) e (λ g. front_more ls k m q f (omega (arith, h)) g)
  where
    by_test : (b : Bool) → cond b (Some l.at) (finish (take k ls) q) ≡ Some f → (finish (take k ls) q ≡ Some f → finish (take m ls) q ≡ Some f) → cond b (Some l.at) (finish (take m ls) q) ≡ Some f
    by_test true g ih = g
    by_test false g ih = ih g

module _ (t : Tables) (es : List Event) (turn : ℕ → Turn) (turns : AreTurns t es turn) (now k d : ℕ) (r : Round) (listed : IsListed (turn now))
    (at : SMachineAt (turn now).plan (turn now).frame k d r) (few : k ≤ left_before (turn now) (suc now)) where
  abbrev u : Turn
  u = turn now

  -- who has no work left was released before
  pub done_late : (q : ℕ) → q < length u.plan.jobs → (job_at r.jobs q).present ≡ true → eqb (get_or r.point.left q 0) 0 ≡ true → u.frame + (job_at u.plan.jobs q).release < now
  done_late q below here idle =
      let e = length u.earlier in
      let short : k ≤ length (turn_walk u) = omega (arith, few, count_within (suc now - u.frame) (turn_walk u)) in
      let point : r.point ≡ last_point u.plan.jobs (take k u.plan.schedule) u.plan.first =
      at.stands.point ∙ ap₂ (λ (js : List Job) (x : Point). last_point js (take r.place u.plan.schedule) x) at.jobs at.first ∙ ap (λ n. last_point u.plan.jobs (take n u.plan.schedule) u.plan.first) at.place in
      let done : done_by (records_so_far u) (e + k) q ≡ true =
      listed.worked k q below (omega (arith, short, length-walk u.plan.jobs u.plan.schedule u.plan.first)) (ap (λ (js : List Job). (job_at js q).present) (sym at.jobs) ∙ here)
      (ap (λ (x : Point). get_or x.left q 0) (sym point) ∙ eqb-true (get_or r.point.left q 0) 0 idle) in
      let one = done_some (turns.walk now) (e + k) q (ap (λ (ls : List Left). is_some (finish ls q)) (front_is (e + k) (omega (arith, short, length-append u.earlier (turn_walk u)))) ∙ done) in
      let by_now : done_by (turns.walk now) (count_left_before (suc now - u.frame) (turns.walk now)) q ≡ true =
      ap is_some (front_more (turns.walk now) (e + k) (count_left_before (suc now - u.frame) (turns.walk now)) q one.0 (omega (arith, few, (turns.each now).count)) one.1) in
      let f = records.done_is (suc now - u.frame) (turns.walk now) q by_now in
      omega (arith, ((turns.frames.runs now).late q f.0 below f.1).0, f.2, turns.frames.past now)
    where
      front_is : (m : ℕ) → m ≤ length (records_so_far u) → take m (turns.walk now) ≡ take m (records_so_far u)
      front_is m h = ap (take m) (turns.each now).front ∙ take_front (records_so_far u) (turns.each now).rest m h

  not_done : (q : ℕ) → q < length u.plan.jobs → u.frame + (job_at u.plan.jobs q).release ≡ now → state_of r q ≢ Finished
  not_done q below when done = grind (arith, done_late)

  -- the read phase tells the flags of the instant
  pub read_phase_tells : (code : ECode) → AreInRange t → ((m : ℕ) → m < length t.modes → ModeReads t code m)
      → s_machine_replay code (phase_path t code es now 3) r ≡ with_flags r (raise_all u.plan.jobs (all_reads t now (state t es now).stays) r.released)
  read_phase_tells code range reads =
      read_phase_acts t code reads range es now r
      ∙ flags_are (all_reads t now (state t es now).stays) r open_yet
      ∙ ap (λ js. with_flags r (raise_all js (all_reads t now (state t es now).stays) r.released)) at.jobs
    where
      open_yet : AreOpen (all_reads t now (state t es now).stays) r
      open_yet i q asks place =
          let jobs = u.plan.jobs in
          let st = release_of t (state t es now).stays now now (standing_at t range es now) (omega arith) i asks in
          let own : position_from 0 jobs i ≡ Some q = ap (λ js. position_from 0 js i) (sym at.jobs) ∙ place in
          let w = position_some 0 jobs i q own in
          let here : slice_get jobs q ≡ Some w.2 = ap (slice_get jobs) (let z : q ≡ w.0 = omega (arith, w.1) in z) ∙ w.3 in
          let h = (turns.frames.jobs_so_far now).has i st.0 st.1 st.2 in
          let same : h.0 ≡ q = same_Some _ _ (sym h.2 ∙ own) in
          let job : (job_at jobs q).release ≡ h.1.job.release = ap (λ (j : Job). j.release) (job_is jobs q h.1.job (ap (slice_get jobs) (sym same) ∙ h.1.at)) in
          not_done q (slice_get_within jobs q w.2 here) (omega (arith, job, h.1.release, st.3))
