-- The records of an instant are those of the list that stood before it, and of the list that begins there.
use Rattle.std.proofs.Common.{◌≡◌, ◌≢◌, ◌≤◌, ◌<◌, ◌⊎◌, ℕ, zero, suc, ◌+◌, ◌-◌, ◌*◌, ◌/◌, Bool, true, false, cond, eqb, List, [], ◌∷◌, length, get_or, map, slice_get, Option, Some, None, refl, sym, ◌∙◌, ap, ap₂, subst, arith, inl, inr}
use Rattle.htl_runs.proofs.Words.{filter, mul_comm, eqb-true, eqb-false, le-ltb, Event, frame_of, starts, root_periods, joined, up_to, Tables, Job, SInstr, Point, job_at, dispatch_begins, time_after, work_after, slice_between, finishes_by, next_point, left_by, walk_from, InForm, left_same, time_rises, RunningList, left_in, lists_at, begun_before, begins_at, frame_at, frame_modes, frame_places, ListPlan, leg_at, list_walk, count_left_before, Rises, shifted, rounds_before, IsFeasibleRun, job_front, old_joined, new_joined, none_joined, no_frames, walk_rises, not_some, frame_start, RunRecord, record_of, list_records, lists_records, old_records, new_records, plan_records, as_told, Turn, turn_walk, left_before, list_turn, inv_at, some_records, old_turn, turn_old_records, turn_new_records, starts_order, same_Some}
use Rattle.htl_walk.specs.declared.schedule.SInstr.TheVariants.{Dispatch, Idle, End}
use Rattle.htl_walk.specs.Walk as walks
use Rattle.htl_smach.specs.declared.left.Left.{Left}
use Rattle.htl_refine.specs.RecordLists.{list_at}
use Rattle.std.proofs.lemmas.Simd.{map-map}
use Rattle.htl_runs.proofs.{lists.ListStarts.ends_next, lists.RunLists.rise, lists.RunLists.past, lists.RunLists.stands, lists.RunLists.from_is, lists.RunLists.length-jobs, lists.RunLists.are_listed}
use Rattle.htl_runs.proofs.records.InstantRecords.{left_then, none_before, piece}

-- ---- nothing runs at the point at which a list begins

-- a record that is left where its walk begins has no slice, and finishes nothing
pub silent_at : (jobs : List Job) (is : List SInstr) (x : Point) (a k : ℕ) (l : walks.Left) → a ≤ x.time → slice_get (walk_from jobs is x) k ≡ Some l → l.at ≡ a → (l.slice ≡ None) × (l.finished ≡ false)
silent_at jobs [] x a k l low at first = not_some l at
silent_at jobs (i ∷ is) x a (suc k) l low at first = let later = time_rises jobs i x in silent_at jobs is (next_point jobs i x) a k l (omega (arith, low, later)) at first
silent_at jobs (Idle until ∷ is) x a zero l low at first = grind (arith, same_Some)
silent_at jobs (End ∷ is) x a zero l low at first = grind (arith, same_Some)
silent_at jobs (Dispatch q until ∷ is) x a zero l low at first =
    let is : left_by jobs (Dispatch q until) x (next_point jobs (Dispatch q until) x) ≡ l = same_Some _ _ at in
    let both = by (get_or x.left q 0) (time_after x.time (get_or x.left q 0) (job_at jobs q).release until) (ap (λ (m : walks.Left). m.at) is ∙ first) in (
      ap (λ (m : walks.Left). m.slice) (sym is) ∙ both.0,
      ap (λ (m : walks.Left). m.finished) (sym is) ∙ ap (finishes_by (get_or x.left q 0)) (left_same x.left q x.time (job_at jobs q).release until) ∙ both.1,
    )
  where
    ends : (time release until w : ℕ) → a ≤ time → time_after time (suc w) release until ≡ a → until ≤ dispatch_begins time release until
    ends time release until w h e = omega (arith, h, e)

    all_left : (time release until w : ℕ) → until ≤ dispatch_begins time release until → work_after time (suc w) release until ≡ suc w
    all_left time release until w h = omega (arith, h)

    by : (w to : ℕ) → time_after x.time w (job_at jobs q).release until ≡ a
        → (slice_between (dispatch_begins x.time (job_at jobs q).release until) until w to ≡ None) × (finishes_by w (work_after x.time w (job_at jobs q).release until) ≡ false)
    by zero to e = (refl, refl)
    by (suc w) to e = grind (arith, ends, le-ltb, all_left)

-- ---- the records of one list that are left at an instant

rises_zero : (a : ℕ) (ls : List walks.Left) → Rises a ls → Rises 0 ls
rises_zero a [] r = tt
rises_zero a (l ∷ ls) r = (omega arith, r.1)

-- a record dispatches a position that has begun
position_below : (jobs : List Job) (count to : ℕ) (is : List SInstr) (x : Point) → InForm count to is → (k : ℕ) (l : walks.Left) (q : ℕ) → slice_get (walk_from jobs is x) k ≡ Some l → l.position ≡ Some q → q < count
position_below jobs count to [] x f k l q at pos = not_some l at
position_below jobs count to (End ∷ []) x f (suc k) l q at pos = not_some l at
position_below jobs count to (End ∷ i ∷ is) x f k l q at pos = absurd f.0
position_below jobs count to (Dispatch p until ∷ is) x f zero l q at pos = grind (arith, same_Some)
position_below jobs count to (Dispatch p until ∷ is) x f (suc k) l q at pos = position_below jobs count to is (next_point jobs (Dispatch p until) x) f.1 k l q at pos
position_below jobs count to (Idle until ∷ is) x f (suc k) l q at pos = position_below jobs count to is (next_point jobs (Idle until) x) f.1 k l q at pos
position_below jobs count to _ x f zero l q at pos = not_some q (ap (λ (m : walks.Left). m.position) (same_Some _ _ at) ∙ pos)

-- whether one thing is made of a record that is left at an instant
module _ {X : Type 0} (g h : ℕ × walks.Left → X) (start now : ℕ) where
  then_same : (k : ℕ) (ls : List walks.Left) → ((i m : ℕ) (l : walks.Left) → slice_get ls i ≡ Some l → start + l.at ≡ now → g (m, shifted start l) ≡ h (m, shifted start l))
      → map g (left_then start now k ls) ≡ map h (left_then start now k ls)
  then_same k [] each = refl
  then_same k (l ∷ ls) each = by (eqb (start + l.at) now) refl (then_same (suc k) ls (λ i m x at. each (suc i) m x at))
    where
      by : (b : Bool) → eqb (start + l.at) now ≡ b → map g (left_then start now (suc k) ls) ≡ map h (left_then start now (suc k) ls)
          → map g (cond b ((k, shifted start l) ∷ left_then start now (suc k) ls) (left_then start now (suc k) ls)) ≡ map h (cond b ((k, shifted start l) ∷ left_then start now (suc k) ls) (left_then start now (suc k) ls))
      by false e next = next
      by true e next = ap₂ (λ x (xs : List X). x ∷ xs) (each 0 k l refl (eqb-true (start + l.at) now e)) next

-- the records from the first that is left at an instant on
pub list_piece : (p : ListPlan) (start now : ℕ) → start ≤ now
    → map as_told (left_then start now 0 (list_walk p)) ≡ some_records p start (count_left_before (now - start) (list_walk p)) (count_left_before (suc now - start) (list_walk p) - count_left_before (now - start) (list_walk p))
list_piece p start now past =
    piece start now (now - start) 0 0 (list_walk p) (omega (arith, past)) (rises_zero p.first.time (list_walk p) (walk_rises p.jobs p.schedule p.first))
    ∙ ap (λ c. some_records p start (count_left_before (now - start) (list_walk p)) (count_left_before c (list_walk p) - count_left_before (now - start) (list_walk p)))
    (let e : suc (now - start) ≡ suc now - start = omega (arith, past) in e)

-- where the list begins they are its first
pub begin_piece : (p : ListPlan) (start now : ℕ) → now - start ≤ p.first.time
    → some_records p start (count_left_before (now - start) (list_walk p)) (count_left_before (suc now - start) (list_walk p) - count_left_before (now - start) (list_walk p)) ≡ some_records p start 0 (count_left_before (suc now - start) (list_walk p))
begin_piece p start now early =
    ap (λ c. some_records p start c (count_left_before (suc now - start) (list_walk p) - c)) (none_before (now - start) p.first.time (list_walk p) (walk_rises p.jobs p.schedule p.first) early)
    ∙ ap (some_records p start 0) (let e : count_left_before (suc now - start) (list_walk p) - 0 ≡ count_left_before (suc now - start) (list_walk p) = omega arith in e)

module _ (t : Tables) (lists : List (List SInstr)) (es : List Event) (run : IsFeasibleRun t lists es) where
  abbrev turn : ℕ → Turn
  turn = list_turn t lists es

  abbrev own : ℕ → RunningList
  own n = list_at t lists es (frame_start t n) (turn n).list

  -- ---- the list that stood before an instant

  frame_is : (n : ℕ) → n / frame_of t * frame_of t ≡ frame_start t n
  frame_is n = mul_comm (n / frame_of t) (frame_of t)

  before : {A : Type 0} (g : ℕ → RunningList → List A) (m : ℕ) → ((f : ℕ) (r : RunningList) → left_in (suc m) f r ≡ [] → g f r ≡ [])
      → up_to (λ i. joined (g (i * frame_of t)) (filter (begun_before (suc m)) (lists_at t lists es (i * frame_of t)))) (rounds_before (frame_of t) (suc m)) ≡ g (frame_start t m) (own m)
  before g m quiet =
      let s = stands t lists es run m in
      let h = frame_of t in
      let j = (turn m).list in
      let down = past t lists es run m in
      let was : (list_at t lists es (m / h * h) j).from < suc m =
      subst (λ f. (list_at t lists es f j).from < suc m) (sym (frame_is m)) (omega (arith, from_is t lists es run m, s.begun, down)) in
      let upto : suc m ≤ m / h * h + (leg_at (frame_at t lists es (m / h * h)) j).to =
      subst (λ f. suc m ≤ f + (leg_at (frame_at t lists es f) j).to) (sym (frame_is m)) (omega (arith, s.before, down)) in
      old_joined t lists es run g (suc m) quiet (m / h) j s.there was upto ∙ ap (λ f. g f (list_at t lists es f j)) (frame_is m)

  -- ---- the list that begins at an instant

  beginning : {A : Type 0} (g : ℕ → RunningList → List A) (now : ℕ) → ((f : ℕ) (r : RunningList) → left_in now f r ≡ [] → g f r ≡ []) → (turn now).frame + (turn now).from ≡ now
      → joined (g (frame_of t * (now / frame_of t))) (filter (begins_at now) (lists_at t lists es (frame_of t * (now / frame_of t)))) ≡ g (frame_start t now) (own now)
  beginning g now quiet starts_here =
      let h = frame_of t in
      let j = (turn now).list in
      let is : now ≡ (list_at t lists es (now / h * h) j).from = sym starts_here ∙ ap (λ f. (list_at t lists es f j).from) (sym (frame_is now)) in
      let r = new_joined t lists es run g now quiet (now / h) j (stands t lists es run now).there is in
      ap (λ f. joined (g f) (filter (begins_at now) (lists_at t lists es f))) (sym (frame_is now)) ∙ r.1 ∙ ap (λ f. g f (list_at t lists es f j)) (frame_is now)

  none_begins : {A : Type 0} (g : ℕ → RunningList → List A) (now : ℕ) → ((f : ℕ) (r : RunningList) → left_in now f r ≡ [] → g f r ≡ []) → (turn now).frame + (turn now).from ≢ now
      → joined (g (frame_of t * (now / frame_of t))) (filter (begins_at now) (lists_at t lists es (frame_of t * (now / frame_of t)))) ≡ []
  none_begins g now quiet away =
      none_joined t lists es run g now quiet
      (λ i less at.
      let s = stands t lists es run now in
      let down = past t lists es run now in
      elim (order i (turn now).list) [
        | inl low ↦ (let up = starts_order (root_periods t) (frame_of t) (starts t) i (turn now).list (rise t lists es run) low s.there in
            away (omega (arith, from_is t lists es run now, up, at, s.begun, down)))
        | inr high ↦ (
            let next = ends_next (frame_of t) (frame_places t (frame_modes t es (frame_start t now))) (starts t) (turn now).list (omega (arith, high, less)) in
            let up = starts_order (root_periods t) (frame_of t) (starts t) (suc (turn now).list) i (rise t lists es run) high less in
            absurd (omega (arith, next, up, at, s.before, down)))
      ])
    where
      order : (a b : ℕ) → (a ≤ b) ⊎ (suc b ≤ a)
      order a b = grind arith

  -- ---- its records

  time_is : (n : ℕ) → (turn n).plan.first.time ≡ (turn n).from
  time_is n = ((are_listed t lists es run).each n).time

  -- a record's job is that of the positions so far
  inv_front : (n : ℕ) (o : Option ℕ) → ((q : ℕ) → o ≡ Some q → q < (leg_at (frame_at t lists es (frame_start t n)) (turn n).list).known) → inv_at (frame_at t lists es (frame_start t n)).jobs o ≡ inv_at (turn n).plan.jobs o
  inv_front n None h = refl
  inv_front n (Some q) h = grind (arith, job_front)

  position_known : (n k : ℕ) (l : walks.Left) → slice_get (turn_walk (turn n)) k ≡ Some l → (q : ℕ) → l.position ≡ Some q → q < (leg_at (frame_at t lists es (frame_start t n)) (turn n).list).known
  position_known n k l at q pos =
      let u = turn n in
      let below = position_below u.plan.jobs (length u.plan.jobs) u.to u.plan.schedule u.plan.first ((are_listed t lists es run).each n).form k l q at pos in
      omega (arith, below, length-jobs t lists es run n)

  -- those of the list that stands at an instant
  of_list : (n now : ℕ) → map (λ l. record_of (frame_at t lists es (frame_start t n)).jobs (own n).node (own n).code (as_told l)) (left_then (turn n).frame now 0 (turn_walk (turn n)))
      ≡ plan_records (turn n).plan (turn n).node (map as_told (left_then (turn n).frame now 0 (turn_walk (turn n))))
  of_list n now =
      let u = turn n in
      let make : Left → ℕ → RunRecord = λ l v. record { left = l; inv = v; node = u.node; instr = slice_get u.plan.schedule l.instr } in
      then_same (λ l. record_of (frame_at t lists es (frame_start t n)).jobs u.node u.plan.schedule (as_told l)) (λ l. record_of u.plan.jobs u.node u.plan.schedule (as_told l)) u.frame now 0 (turn_walk u)
      (λ i m l at here. ap (make (as_told (m, shifted u.frame l))) (inv_front n l.position (position_known n i l at)))
      ∙ sym (map-map (record_of u.plan.jobs u.node u.plan.schedule) as_told (left_then u.frame now 0 (turn_walk u)))

  none_of : (now f : ℕ) (r : RunningList) → left_in now f r ≡ [] → list_records t lists es now f r ≡ []
  none_of now f r e = ap (map (λ l. record_of (frame_at t lists es f).jobs r.node r.code (as_told l))) e

  pub old_are : (now : ℕ) → old_records t lists es (Some (frame_of t)) now ≡ plan_records (old_turn turn now).plan (old_turn turn now).node (turn_old_records turn now)
  old_are zero = ap (up_to (λ k. lists_records t lists es (begun_before 0) 0 (k * frame_of t))) (no_frames t lists es run)
  old_are (suc m) =
      let u = turn m in
      before (list_records t lists es (suc m)) m (none_of (suc m)) ∙ of_list m (suc m) ∙ ap (plan_records u.plan u.node) (list_piece u.plan u.frame (suc m) (omega (arith, past t lists es run m)))

  pub new_are : (now : ℕ) → new_records t lists es (Some (frame_of t)) now ≡ plan_records (turn now).plan (turn now).node (turn_new_records turn now)
  new_are now = by (eqb ((turn now).frame + (turn now).from) now) refl
    where
      by : (b : Bool) → eqb ((turn now).frame + (turn now).from) now ≡ b
          → new_records t lists es (Some (frame_of t)) now ≡ plan_records (turn now).plan (turn now).node (cond b (some_records (turn now).plan (turn now).frame 0 (left_before (turn now) (suc now))) [])
      by true e =
          let u = turn now in
          let here = eqb-true ((turn now).frame + (turn now).from) now e in
          beginning (list_records t lists es now) now (none_of now) here ∙ of_list now now
          ∙ ap (plan_records u.plan u.node) (list_piece u.plan u.frame now (past t lists es run now) ∙ begin_piece u.plan u.frame now (omega (arith, here, time_is now)))
      by false e = none_begins (list_records t lists es now) now (none_of now) (eqb-false ((turn now).frame + (turn now).from) now e)
