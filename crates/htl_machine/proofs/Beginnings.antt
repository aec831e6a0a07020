-- The last part of an instant at which a list begins, put together.
use Rattle.std.proofs.Common.{◌≡◌, ℕ, zero, suc, ◌+◌, ◌-◌, ◌<◌, ◌≤◌, ◌++◌, Bool, true, false, cond, List, [], ◌∷◌, length, get_or, slice_get, Option, Some, None, IfSome, Result, Ok, Err, refl, sym, ap, ◌∙◌, subst, arith}
use Rattle.htl_machine.proofs.Words.{length-map, Puts, append_known-start, Puts-failed, Puts-second, Event, joined, AreInRange, Tables, Job, SInstr, Schedule, Point, Left, job_at, time_after, work_after, next_point, left_by, walk_from, finishes_by, left_same, time_passes, Round, Stands, round_begun, ECode, Calendar, Content, phase_path, Between, Plan, list_walk, count_left_before, modes_at, Shown, ListAt, Tally, CanFollow, IsToBegin, complete_at, complete_by, run_records, with_records, path_lines, SMachineAt, due_by, list_begun, Turn, reading_text, closing_text, first_records, beginning_text, Prints, Counted, s_machine_replay, Records, turn_at, instrs_by, node_by, turn_list, next_at, instrs_of, plan_text, some_records, not_some, passes, same_Some}
use Rattle.htl_walk.specs.declared.schedule.SInstr.TheVariants.{Dispatch, Idle, End}
use Rattle.htl_machine.proofs.{Closings.reads_second, Modes.modes_are}
use Rattle.htl_runs.proofs.records.DoneBefore.{before_count}

-- ---- the list

-- the list of the events has begun, and the releases of the instant are told
pub record HasBegun (t : Tables) (lists : List (List SInstr)) (es : List Event) (at : ℕ) (list : Option ListAt) (steps : List SInstr) (first told : Round) : Type 0 where
  pub list_is : list ≡ Some (turn_list (turn_at t lists es at))
  pub same : (turn_at t lists es at).plan.schedule ≡ steps
  pub jobs : first.jobs ≡ (turn_at t lists es at).plan.jobs
  pub past : (turn_at t lists es at).frame + (turn_at t lists es at).plan.first.time ≡ at
  pub told_at : SMachineAt (turn_at t lists es at).plan (turn_at t lists es at).frame 0 (suc at - (turn_at t lists es at).frame) told

module _ (t : Tables) (code : ECode) (ss : List Schedule) (es : List Event) (at : ℕ) (takes : List ℕ) (last : Option ListAt) (r : Round) (modes : List (Option ℕ)) (ms : modes ≡ modes_at t es at)
    (h : IsToBegin t code (instrs_of ss) es at takes last r) where
  abbrev u : Turn
  u = turn_at t (instrs_of ss) es at

  pub may_follow : CanFollow t modes takes at last r
  may_follow = subst (λ z. CanFollow t z takes at last r) (sym ms) h.follows

  module _ (list : Option ListAt) (is : list ≡ Some (next_at t modes at last)) where
    list_there : list ≡ Some (turn_list (turn_at t (instrs_of ss) es at))
    list_there = is ∙ ap (λ z. Some (next_at t z at last)) ms ∙ ap (λ z. Some z) (sym h.next)

    -- its node has a schedule
    pub node_there : IfSome list (λ l. l.node < length ss)
    node_there = subst (λ (p : Option ListAt). IfSome p (λ l. l.node < length ss)) (sym list_there) (let same = length-map ss (λ (s : Schedule). s.instrs) in omega (arith, h.known, same))

    pub has_begun : (idle steps : List SInstr) (first told : Round) → steps ≡ instrs_by ss idle list → first ≡ list_begun t modes takes at r → told ≡ s_machine_replay code (phase_path t code es at 3) first
        → ((s : List SInstr) → Stands first s → Stands told s) → HasBegun t (instrs_of ss) es at list steps first told
    has_begun idle steps first told by round_begun after keeps =
        let own : first ≡ list_begun t (modes_at t es at) takes at r = round_begun ∙ ap (λ z. list_begun t z takes at r) ms in
        let stands : Stands told u.plan.schedule = keeps u.plan.schedule (subst (λ d. Stands d u.plan.schedule) (sym own) h.begins.stands) in
        let is_told : told ≡ s_machine_replay code (phase_path t code es at 3) (list_begun t (modes_at t es at) takes at r) = after ∙ ap (s_machine_replay code (phase_path t code es at 3)) own in
        record {
          list_is = list_there;
          same = h.code_is ∙ sym (by ∙ ap (instrs_by ss idle) list_there);
          jobs = ap (λ (d : Round). d.jobs) own ∙ h.begins.jobs;
          past = h.time;
          told_at =
              subst (SMachineAt u.plan u.frame 0 (suc at - u.frame)) (sym is_told)
              (h.told (subst (λ d. Stands d u.plan.schedule) is_told stands));
        }

-- the same, of the calendar that the switches leave and of what the machines then say
pub has_begun_so : (t : Tables) (code : ECode) (ss : List Schedule) (es : List Event) (at : ℕ) (takes : List ℕ) (last : Option ListAt) (r : Round) (c : Calendar) → AreInRange t → Between t code es at 2 c (length t.modules)
    → IsToBegin t code (instrs_of ss) es at takes last r → (list : Option ListAt) → list ≡ Some (next_at t c.modes at last) → (idle steps : List SInstr) (switched first told : Round) → switched ≡ r
    → first ≡ list_begun t c.modes takes at switched → told ≡ s_machine_replay code (phase_path t code es at 3) first → steps ≡ instrs_by ss idle list → ((s : List SInstr) → Stands first s → Stands told s)
    → HasBegun t (instrs_of ss) es at list steps first told
has_begun_so t code ss es at takes last r c range between h list is idle steps switched first told same begins after by keeps =
    has_begun t code ss es at takes last r c.modes (modes_are t code es at c range between) h list is idle steps first told by (begins ∙ ap (list_begun t c.modes takes at) same) after keeps

-- ---- its first records

finishes_late : (jobs : List Job) (is : List SInstr) (x : Point) (k q : ℕ) (l : Left) → slice_get (walk_from jobs is x) k ≡ Some l → l.position ≡ Some q → l.finished ≡ true → x.time < l.at
finishes_late jobs [] x k q l at pos fin = not_some l at
finishes_late jobs (Dispatch p until ∷ is) x zero q l at pos fin =
    let y = next_point jobs (Dispatch p until) x in
    let e : left_by jobs (Dispatch p until) x y ≡ l = same_Some _ _ at in
    let late : x.time < y.time = by (get_or x.left p 0) (get_or y.left p 0) (left_same x.left p x.time (job_at jobs p).release until) (ap (λ (z : Left). z.finished) e ∙ fin) in
    omega (arith, late, ap (λ (z : Left). z.at) e)
  where
    by : (w v : ℕ) → v ≡ work_after x.time w (job_at jobs p).release until → finishes_by w v ≡ true → x.time < time_after x.time w (job_at jobs p).release until
    by zero v e f = absurd (let z : ⊥ = cc in z)
    by (suc w) zero e f = passes x.time (suc w) (job_at jobs p).release until (omega arith) (sym e)
    by (suc w) (suc v) e f = absurd (let z : ⊥ = cc in z)
finishes_late jobs (Dispatch p until ∷ is) x (suc k) q l at pos fin =
    omega (arith, time_passes x.time (get_or x.left p 0) (job_at jobs p).release until, finishes_late jobs is (next_point jobs (Dispatch p until) x) k q l at pos fin)
finishes_late jobs (Idle until ∷ is) x (suc k) q l at pos fin = omega (arith, finishes_late jobs is (next_point jobs (Idle until) x) k q l at pos fin)
finishes_late jobs (End ∷ is) x (suc k) q l at pos fin = finishes_late jobs is x k q l at pos fin
finishes_late jobs _ x zero q l at pos fin = let e = same_Some _ _ at in not_some q (ap (λ (z : Left). z.position) e ∙ pos)

-- so no job is done at once
still : (t : Tables) (p : Plan) (k : ℕ) (w : Content) → k < count_left_before (suc p.first.time) (list_walk p) → complete_by t p.jobs (slice_get (list_walk p) k) w ≡ w
still t p k w h = by_record (slice_get (list_walk p) k) refl
  where
    by_position : (l : Left) → slice_get (list_walk p) k ≡ Some l → l.finished ≡ true → (o : Option ℕ) → l.position ≡ o → complete_at t p.jobs o w ≡ w
    by_position l e fin None f = refl
    by_position l e fin (Some q) f =
        let late = finishes_late p.jobs p.schedule p.first k q l e f fin in
        absurd (omega (arith, late, before_count (suc p.first.time) (list_walk p) k l h e))

    by_done : (l : Left) → slice_get (list_walk p) k ≡ Some l → (b : Bool) → l.finished ≡ b → cond b (complete_at t p.jobs l.position w) w ≡ w
    by_done l e false f = refl
    by_done l e true f = by_position l e f l.position refl

    by_record : (o : Option Left) → slice_get (list_walk p) k ≡ o → complete_by t p.jobs o w ≡ w
    by_record None e = refl
    by_record (Some l) e = by_done l e l.finished refl

quiet : (t : Tables) (p : Plan) (n k : ℕ) (w : Content) → k + n ≤ count_left_before (suc p.first.time) (list_walk p) → run_records t p.jobs (list_walk p) n k w ≡ w
quiet t p zero k w h = refl
quiet t p (suc n) k w h = quiet t p n (suc k) (complete_by t p.jobs (slice_get (list_walk p) k) w) (omega (arith, h)) ∙ still t p k w (omega (arith, h))

no_place : (n : ℕ) → n - 0 ≡ n
no_place n = omega arith

module _ (t : Tables) (lists : List (List SInstr)) (es : List Event) (at : ℕ) (list : Option ListAt) (steps : List SInstr) (first told : Round) (h : HasBegun t lists es at list steps first told) where
  abbrev v : Turn
  v = turn_at t lists es at

  pub first_done : (n : Round) (w x : Content) → Records t told w n x steps at
      → SMachineAt (turn_at t lists es at).plan (turn_at t lists es at).frame (due_by (turn_at t lists es at).plan (turn_at t lists es at).frame at) (suc at - (turn_at t lists es at).frame) n × (x ≡ w)
  first_done n w x records =
      let all = records v.plan v.frame 0 (suc at - v.frame) h.same (omega (arith, h.past)) (omega arith) h.told_at in
      let few : 0 + (due_by v.plan v.frame at - 0) ≤ count_left_before (suc v.plan.first.time) (list_walk v.plan) =
      omega (arith, ap (λ z. count_left_before z (list_walk v.plan)) (let z : suc at - v.frame ≡ suc v.plan.first.time = omega (arith, h.past) in z)) in
      (all.0, all.1 ∙ quiet t v.plan (due_by v.plan v.frame at - 0) 0 w few)

  pub first_counted : (n m : Tally) → Counted told steps at n m → m ≡ with_records (first_records t lists es at) n
  first_counted n m counted =
      counted v.plan v.frame 0 (suc at - v.frame) h.same (omega (arith, h.past)) (omega arith) h.told_at
      ∙ ap (λ k. with_records (some_records v.plan v.frame 0 k) n) (no_place (due_by v.plan v.frame at))

  pub first_told : {T E : Type 0} (show : Shown) (node : ℕ) (w0 w : Option (List ℕ)) (f0 f : ℕ) (result : Result T E) → node ≡ node_by list → Prints t show node told steps at w0 w f0 f result → Puts w0 w f0 f (beginning_text t lists es show at) result
  first_told show node w0 w f0 f result is prints =
      subst (λ k. Puts w0 w f0 f (joined (plan_text t show v.plan v.node) (some_records v.plan v.frame 0 k)) result) (no_place (due_by v.plan v.frame at))
      (subst (λ n. Prints t show n told steps at w0 w f0 f result) (is ∙ ap node_by h.list_is) prints v.plan v.frame 0 (suc at - v.frame) h.same (omega (arith, h.past)) (omega arith) h.told_at)

-- ---- the text

-- what failed, with what would have followed
pub then_more : {T S E F : Type 0} (a b : List ℕ) (w0 w : Option (List ℕ)) (f0 f : ℕ) (x : E) (y : F) → Puts {T = T} {E = E} w0 w f0 f a (Err x) → Puts {T = S} {E = F} w0 w f0 f (a ++ b) (Err y)
then_more a b w0 w f0 f x y puts = Puts-failed w0 w0 w f0 f0 f [] a b x y (append_known-start w0) refl puts

pub fails_so : {T S E F : Type 0} (a : List ℕ) (w0 w : Option (List ℕ)) (f0 f : ℕ) (x : E) (y : F) → Puts {T = T} {E = E} w0 w f0 f a (Err x) → Puts {T = S} {E = F} w0 w f0 f a (Err y)
fails_so a w0 w f0 f x y puts = record {
  whole = tt;
  part = puts.part;
  cause = record { later = puts.cause.later; kept = tt; refused = puts.cause.refused };
}

pub ends_so : {T S E F : Type 0} (a : List ℕ) (w0 w : Option (List ℕ)) (f0 f : ℕ) (x : T) (y : S) → Puts {T = T} {E = E} w0 w f0 f a (Ok x) → Puts {T = S} {E = F} w0 w f0 f a (Ok y)
ends_so a w0 w f0 f x y puts = record {
  whole = puts.whole;
  part = tt;
  cause = record { later = puts.cause.later; kept = puts.cause.kept; refused = tt };
}

pub began_last : {T S R E F G : Type 0} (t : Tables) (code : ECode) (schedules : List (List SInstr)) (es : List Event) (show : Shown) (at : ℕ) (w0 w1 w2 w : Option (List ℕ)) (f0 f1 f2 f : ℕ) (u : S) (v : R) (result : Result T E)
    → Puts {T = S} {E = F} w0 w1 f0 f1 (path_lines t code show at (phase_path t code es at 2)) (Ok u) → Puts {T = R} {E = G} w1 w2 f1 f2 (reading_text t code es show at) (Ok v)
    → Puts w2 w f2 f (beginning_text t schedules es show at) result → Puts w0 w f0 f (closing_text t code es show at ++ beginning_text t schedules es show at) result
began_last {R = R} {G = G} t code schedules es show at w0 w1 w2 w f0 f1 f2 f u v result first second third =
    let closed : Puts {T = R} {E = G} w0 w2 f0 f2 (closing_text t code es show at) (Ok v) = reads_second t code es show at w0 w1 w2 f0 f1 f2 u (Ok v) first second in
    Puts-second w0 w2 w f0 f2 f (closing_text t code es show at) (beginning_text t schedules es show at) result closed.whole closed.cause.kept third
