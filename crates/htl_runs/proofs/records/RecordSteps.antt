-- The loop that leaves the records of an instant and completes jobs.
use Rattle.std.proofs.Common.{◌≡◌, ℕ, zero, suc, ◌+◌, ◌-◌, ◌≤◌, ◌<◌, Bool, true, cond, List, length, slice_get, Option, Some, None, IfSome, option_map, refl, sym, ap, ap₂, ◌∙◌, subst, arith, ◌⊎◌, inl, inr}
use Rattle.htl_runs.proofs.Words.{slice_get_within, same_Some, Tables, AreInRange, KeptApart, Job, SInstr, job_at, walk_from, job_there, Round, Stands, IsInForm, IsTold, next_left, moved, after, told, answer_is, Content, completed, IsShaped, Plan, list_walk, complete_at, complete_by, run_records, SMachineAt, due_by, AreOf, IsJobOf, Records, IsRecording, not_some, last_is, cases_up_to}
use Rattle.htl_walk.specs.Walk as walks
use Rattle.htl_smach.specs.declared.left.Left.{Left}
use Rattle.htl_smach.specs.Rounds as rounds
use Rattle.htl_runs.proofs.records.SMachineInstants.{next_some, next_none, moves_on, told_get}
use Rattle.htl_runs.proofs.records.DueRecords.{is_running, instr_there, still_pending}

-- one record more, at the end
run_more : (t : Tables) (jobs : List Job) (ls : List walks.Left) (n k : ℕ) (w : Content) → run_records t jobs ls (suc n) k w ≡ complete_by t jobs (slice_get ls (k + n)) (run_records t jobs ls n k w)
run_more t jobs ls zero k w = ap (λ z. complete_by t jobs (slice_get ls z) w) (let e : k ≡ k + 0 = omega arith in e)
run_more t jobs ls (suc n) k w = grind (arith, run_more t jobs ls n (suc k) (complete_by t jobs (slice_get ls k) w))

-- what an answer says of the walk of the round's list
record IsAnswer (r : Round) (code : List SInstr) (l : Left) : Type 0 where
  record_of : walks.Left
  at : slice_get (walk_from r.jobs code r.first) r.place ≡ Some record_of
  is : l ≡ told r.start r.place record_of

answer_of : (r : Round) (code : List SInstr) (at : ℕ) (l : Left) → next_left r code at ≡ Some l → IsAnswer r code l
answer_of r code at l e =
    by_record (slice_get (walk_from r.jobs code r.first) r.place) refl (sym (told_get r.start 0 (walk_from r.jobs code r.first) r.place) ∙ answer_is r code at l e)
  where
    by_record : (o : Option walks.Left) → slice_get (walk_from r.jobs code r.first) r.place ≡ o → option_map (told r.start (0 + r.place)) o ≡ Some l → IsAnswer r code l
    by_record None f g = not_some l g
    by_record (Some x) f g = record { record_of = x; at = f; is = sym (same_Some _ _ g) ∙ ap (λ z. told r.start z x) (let h : 0 + r.place ≡ r.place = omega arith in h) }

-- who is done stands at its position
pub finished_job : (r : Round) (code : List SInstr) (at p : ℕ) (l : Left) → Stands r code → next_left r code at ≡ Some l → l.finished ≡ true → l.position ≡ Some p → (slice_get r.jobs p ≡ Some (job_at r.jobs p)) × ((job_at r.jobs p).present ≡ true)
finished_job r code at p l st e fin pos =
    let a = answer_of r code at l e in
    let last = last_is r.jobs p code r.first r.place a.record_of a.at (ap (λ (z : Left). z.position) (sym a.is) ∙ pos) (ap (λ (z : Left). z.finished) (sym a.is) ∙ fin) in
    let here : (job_at r.jobs p).present ≡ true = st.work p last.some in
    (job_there r.jobs p here, here)

-- what the code does with an answer
abbrev pub done_with : Tables → List Job → Left → Content → Content
done_with t jobs l w = cond l.finished (complete_at t jobs l.position w) w

pub recording_start : (t : Tables) (r : Round) (w : Content) (jobs : List Job) (code : List SInstr) (at : ℕ) → (r.running ≡ true → IsInForm r code) → Stands r code → IsTold r at → r.jobs ≡ jobs → IsShaped t w → IsRecording t r w r w jobs code at
recording_start t r w jobs code at form st told same shaped = grind arith

pub recording_step : (t : Tables) (r0 r n : Round) (w0 w v : Content) (jobs : List Job) (code : List SInstr) (at : ℕ) (l : Left) → IsRecording t r0 w0 r w jobs code at → next_left r code at ≡ Some l → n ≡ after r code (Some l)
    → Stands n code → IsShaped t v → v ≡ done_with t jobs l w → IsRecording t r0 w0 n v jobs code at
recording_step t r0 r n w0 w v jobs code at l h e f st shaped is =
    subst (λ z. IsRecording t r0 w0 z v jobs code at) (sym f)
    (record {
      form = λ run. h.form (is_running r code at l e);
      stands = st';
      told = λ p pend. h.told p (still_pending r code p i.0 h.stands i.1 pend);
      are = h.are;
      shaped = shaped;
      goes = λ p s k d same past few was.
          let g = h.goes p s k d same past few was in
          let less : g.0 < due_by p s at = not_all p s g.0 d same past g.2 g.3 in (
            suc g.0,
            omega (arith, g.1),
            less,
            subst (λ c. SMachineAt p s (suc g.0) d (moved r c)) same (moves_on p s at d past g.0 r g.3 (subst (λ c. rounds.Stands (moved r c) c) (sym same) st')),
            is ∙ worlds p s g.0 k d same past less g.3 g.1 ∙ ap (λ z. complete_by t p.jobs (slice_get (list_walk p) g.0) z) g.4
                ∙ ap (λ z. complete_by t p.jobs (slice_get (list_walk p) z) (run_records t p.jobs (list_walk p) (g.0 - k) k w0)) (let z : g.0 ≡ k + (g.0 - k) = omega (arith, g.1) in z)
                ∙ sym (run_more t p.jobs (list_walk p) (g.0 - k) k w0)
                ∙ ap (λ z. run_records t p.jobs (list_walk p) z k w0) (let z : suc (g.0 - k) ≡ suc g.0 - k = omega (arith, g.1) in z),
          );
    })
  where
    st' : Stands (moved r code) code
    st' = subst (λ z. Stands z code) f st

    i : (i : SInstr) × (slice_get code r.place ≡ Some i)
    i = instr_there r code at l e

    not_all : (p : Plan) (s m d : ℕ) → p.schedule ≡ code → s ≤ at → m ≤ due_by p s at → SMachineAt p s m d r → m < due_by p s at
    not_all p s m d same past few was = elim (order m (due_by p s at) few) [
      | inl a ↦ a
      | inr b ↦ not_some l (sym (next_none p s at d past m r was b) ∙ ap (λ c. next_left r c at) same ∙ e)
    ]
      where
        order : (a b : ℕ) → a ≤ b → (a < b) ⊎ (a ≡ b)
        order a b h = grind arith

    -- the answer is the plan's record
    worlds : (p : Plan) (s m k d : ℕ) → p.schedule ≡ code → s ≤ at → m < due_by p s at → SMachineAt p s m d r → k ≤ m → done_with t jobs l w ≡ complete_by t p.jobs (slice_get (list_walk p) m) w
    worlds p s m k d same past less was below = grind (arith, next_some, at, same_Some)

pub recording_smaller : (r n : Round) (code : List SInstr) (at : ℕ) (l : Left) → next_left r code at ≡ Some l → n ≡ after r code (Some l) → length code - n.place < length code - r.place
recording_smaller r n code at l e f = let i = instr_there r code at l e in omega (arith, slice_get_within code r.place i.0 i.1, ap (λ (z : Round). z.place) f)

pub recording_end : (t : Tables) (r0 r n : Round) (w0 w : Content) (jobs : List Job) (code : List SInstr) (at : ℕ) → IsRecording t r0 w0 r w jobs code at → next_left r code at ≡ None → n ≡ r → Records t r0 w0 n w code at
recording_end t r0 r n w0 w jobs code at h e f = grind (arith, cases_up_to, next_some, not_some)

-- ---- what `complete` asks for and gives

-- the job of an answer that finishes it
pub answer_job : (t : Tables) (r : Round) (jobs : List Job) (code : List SInstr) (at : ℕ) (l : Left) → AreOf t jobs → r.jobs ≡ jobs → Stands r code → next_left r code at ≡ Some l → l.finished ≡ true → IfSome l.position (IsJobOf t jobs)
answer_job t r jobs code at l all are st e fin = grind (arith, finished_job, slice_get_within)

-- what a done job puts out, by its position
pub put_is : (t : Tables) (jobs : List Job) (fin : Bool) (o : Option ℕ) (p i : ℕ) (w v : Content) → AreInRange t → KeptApart t 12 → fin ≡ true → o ≡ Some p → i ≡ (job_at jobs p).inv → (fin ≡ true → IfSome o (IsJobOf t jobs))
    → v ≡ completed t i w → v ≡ cond fin (complete_at t jobs o w) w
put_is t jobs fin o p i w v range kept done is inv known same = grind arith
