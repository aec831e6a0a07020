-- The S machine as a list begins behind a frame's start.
use Rattle.std.proofs.Common.{◌≡◌, ◌≢◌, ℕ, zero, suc, ◌+◌, ◌-◌, ◌%◌, ◌≤◌, ◌<◌, Bool, true, false, cond, List, [], ◌∷◌, ◌++◌, length, get_or, map, slice_get, take, drop, Some, refl, sym, ap, ap₂, ◌∙◌, subst, arith, inl, inr, length-append}
use Rattle.htl_runs.proofs.Words.{ne_eqb, cases_eq, length-map, Event, frame_of, starts, known_by, Tables, Job, SInstr, HaveLengths, AreWithinWorst, Point, work, CanBegin, Round, round_begun, added, stands_added, new_jobs, Frame, frame_modes, frame_places, frame_at, IsFollowed, leg_at, list_plan, modes_at, took, IsFeasibleRun, take-map, lists_follow, leg_from, leg_knows, next_jobs, have_lengths, within_worst, frame_start, SMachineAt, list_begun, CanStart, IsAtEnd, ListsAreBegun, Turn, more_jobs, more_lengths, turn_of, list_turn, kept_lengths, drop-map}
use Rattle.htl_runs.proofs.{frames.JobWindows.get_map, lists.FirstStand.first_can, lists.FirstStand.first_s_machine, lists.NextSMachines.s_machines_go_on, lists.NextSMachines.even}
use Rattle.htl_runs.proofs.{lists.NextLists.offset, lists.NextLists.later_next, lists.NextLists.same_frame, lists.RunLists.past, lists.RunLists.stands, lists.RunLists.from_is, lists.RunLists.length-jobs}

-- lengths that agree where a job is present are the same work
same_work : (js : List Job) (ns ms : List ℕ) → length ns ≡ length ms → ((p : ℕ) (j : Job) → slice_get js p ≡ Some j → j.present ≡ true → get_or ns p 0 ≡ get_or ms p 0) → work js ns ≡ work js ms
same_work [] ns ms e h = refl
same_work (j ∷ js) [] [] e h = refl
same_work (j ∷ js) (n ∷ ns) (m ∷ ms) e h =
    ap₂ (λ (a : ℕ) (ws : List ℕ). a ∷ ws) (by j.present refl) (same_work js ns ms (omega (arith, e)) (λ p k at here. h (suc p) k at here))
  where
    by : (b : Bool) → j.present ≡ b → cond b n 0 ≡ cond b m 0
    by true f = h 0 j refl f
    by false f = refl
same_work (j ∷ js) _ _ e h = absurd (omega (arith, e))

module _ (t : Tables) (lists : List (List SInstr)) (es : List Event) (run : IsFeasibleRun t lists es) (n : ℕ) (here : (list_turn t lists es (suc n)).frame + (list_turn t lists es (suc n)).from ≡ suc n) (more : suc n % frame_of t ≢ 0)
    (takes : List ℕ) (takes_are : (i u : ℕ) → suc n ≤ u → get_or takes i 0 ≡ took t es i u) (r : Round)
    (ends : SMachineAt (list_turn t lists es n).plan (list_turn t lists es n).frame (length (list_turn t lists es n).plan.schedule) (suc n - (list_turn t lists es n).frame) r) where
  abbrev f : ℕ
  f = frame_start t n

  abbrev p : Frame
  p = frame_at t lists es (frame_start t n)

  abbrev j : ℕ
  j = (list_turn t lists es n).list

  frame_is : frame_start t (suc n) ≡ frame_start t n
  frame_is = same_frame t lists es run (suc n) n refl more here

  list_is : (list_turn t lists es (suc n)).list ≡ suc (list_turn t lists es n).list
  list_is = (later_next t lists es run (suc n) n refl more here).0 ∙ ap (λ b. cond b 0 (suc j)) (ne_eqb (suc n % frame_of t) 0 more)

  there_next : suc (list_turn t lists es n).list < length (starts t)
  there_next = let s = stands t lists es run (suc n) in omega (arith, s.there, list_is)

  followed : IsFollowed (frame_at t lists es (frame_start t n)) (list_turn t lists es n).list
  followed = lists_follow t lists es f j run there_next

  -- when it begins
  start_is : get_or (starts t) (suc (list_turn t lists es n).list) 0 ≡ suc n - frame_start t n
  start_is = ap (λ i. get_or (starts t) i 0) (sym list_is) ∙ sym (from_is t lists es run (suc n)) ∙ (let z = past t lists es run n in omega (arith, here, frame_is, z))

  leg_is : (leg_at (frame_at t lists es (frame_start t n)) (suc (list_turn t lists es n).list)).from ≡ suc n - frame_start t n
  leg_is = leg_from (frame_of t) (frame_places t (frame_modes t es f)) (starts t) (suc j) there_next ∙ start_is

  offset_is : suc n % frame_of t ≡ suc n - frame_start t n
  offset_is = let z = offset t lists es run (suc n) in omega (arith, z, frame_is)

  least : HaveLengths (frame_at t lists es (frame_start t n)).jobs (frame_at t lists es (frame_start t n)).lengths
  least = have_lengths t (frame_modes t es f) es f run.range run.within (frame_places t (frame_modes t es f))

  most : AreWithinWorst (frame_at t lists es (frame_start t n)).jobs (frame_at t lists es (frame_start t n)).lengths
  most = within_worst t (frame_modes t es f) es f run.range run.within (frame_places t (frame_modes t es f))

  at_end : SMachineAt (list_plan (frame_at t lists es (frame_start t n)) (list_turn t lists es n).list) (frame_start t n) (length (get_or (frame_at t lists es (frame_start t n)).lists (list_turn t lists es n).list []))
      (leg_at (frame_at t lists es (frame_start t n)) (suc (list_turn t lists es n).list)).from r
  at_end = subst (λ d. SMachineAt (list_plan p j) f (length (get_or p.lists j [])) d r) (sym leg_is) ends

  instant_is : frame_start t n + (leg_at (frame_at t lists es (frame_start t n)) (suc (list_turn t lists es n).list)).from ≡ suc n
  instant_is = let z = past t lists es run n in omega (arith, leg_is, z)

  -- its new positions
  jobs_are : more_jobs (frame_at t lists es (frame_start t n)) (list_turn t lists es n).list ≡ new_jobs t (modes_at t es (suc n)) (suc n % frame_of t) (length r.jobs)
  jobs_are =
      let places = frame_places t (frame_modes t es f) in
      let before : length r.jobs ≡ known_by (get_or (starts t) j 0) places =
      ap (λ (js : List Job). length js) ends.jobs ∙ length-jobs t lists es run n ∙ leg_knows (frame_of t) places (starts t) j (omega (arith, there_next)) in
      let same : f + get_or (starts t) (suc j) 0 ≡ suc n = omega (arith, start_is, past t lists es run n) in
      ap₂ (λ a b. drop a (take b p.jobs)) (leg_knows (frame_of t) places (starts t) j (omega (arith, there_next))) (leg_knows (frame_of t) places (starts t) (suc j) there_next)
      ∙ next_jobs t (frame_modes t es f) j there_next
      ∙ ap₂ (λ m a. new_jobs t (modes_at t es m) a (known_by (get_or (starts t) j 0) places)) same (start_is ∙ sym offset_is)
      ∙ ap (new_jobs t (modes_at t es (suc n)) (suc n % frame_of t)) (sym before)

  abbrev js : List Job
  js = more_jobs (frame_at t lists es (frame_start t n)) (list_turn t lists es n).list

  -- how long they take
  lengths_are : more_lengths (frame_at t lists es (frame_start t n)) (list_turn t lists es n).list ≡ map (λ (k : Job). took t es k.inv (frame_start t n + k.release)) (more_jobs (frame_at t lists es (frame_start t n)) (list_turn t lists es n).list)
  lengths_are = grind (arith, take-map, drop-map)

  gone : CanBegin r (suc n - r.start) (more_jobs (frame_at t lists es (frame_start t n)) (list_turn t lists es n).list) (more_lengths (frame_at t lists es (frame_start t n)) (list_turn t lists es n).list)
      × SMachineAt (list_plan (frame_at t lists es (frame_start t n)) (suc (list_turn t lists es n).list)) (frame_start t n) 0 (leg_at (frame_at t lists es (frame_start t n)) (suc (list_turn t lists es n).list)).from
      (added r (suc n) (more_jobs (frame_at t lists es (frame_start t n)) (list_turn t lists es n).list) (more_lengths (frame_at t lists es (frame_start t n)) (list_turn t lists es n).list))
  gone =
      subst (λ a. CanBegin r (a - r.start) (more_jobs p j) (more_lengths p j) × SMachineAt (list_plan p (suc j)) f 0 (leg_at p (suc j)).from (added r a (more_jobs p j) (more_lengths p j))) instant_is
      (s_machines_go_on p j f r followed least most at_end)

  kept_same : (q : ℕ) (k : Job) → slice_get (more_jobs (frame_at t lists es (frame_start t n)) (list_turn t lists es n).list) q ≡ Some k → k.present ≡ true
      → get_or (kept_lengths takes (more_jobs (frame_at t lists es (frame_start t n)) (list_turn t lists es n).list)) q 0 ≡ get_or (more_lengths (frame_at t lists es (frame_start t n)) (list_turn t lists es n).list) q 0
  kept_same q k at present = grind (arith, get_map, gone, past, lengths_are)

  counted : length (kept_lengths takes (more_jobs (frame_at t lists es (frame_start t n)) (list_turn t lists es n).list)) ≡ length (more_lengths (frame_at t lists es (frame_start t n)) (list_turn t lists es n).list)
  counted = length-map js (λ (z : Job). get_or takes z.inv 0) ∙ sym (gone.0.same)

  can : CanBegin r (suc n - r.start) (more_jobs (frame_at t lists es (frame_start t n)) (list_turn t lists es n).list) (kept_lengths takes (more_jobs (frame_at t lists es (frame_start t n)) (list_turn t lists es n).list))
  can = grind (arith, gone, counted, least, kept_same, most)

  s_machine : SMachineAt (list_plan (frame_at t lists es (frame_start t n)) (suc (list_turn t lists es n).list)) (frame_start t n) 0 (leg_at (frame_at t lists es (frame_start t n)) (suc (list_turn t lists es n).list)).from
      (added r (suc n) (more_jobs (frame_at t lists es (frame_start t n)) (list_turn t lists es n).list) (kept_lengths takes (more_jobs (frame_at t lists es (frame_start t n)) (list_turn t lists es n).list)))
  s_machine =
      let d = gone.1 in
      let ns = kept_lengths takes js in
      let make : List ℕ → Point = λ ws. record { time = suc n - r.start; left = r.point.left ++ ws } in
      record {
        start = d.start;
        jobs = d.jobs;
        lengths = length-append r.lengths ns ∙ (let z : length r.lengths + length ns ≡ length r.jobs + length js = omega (arith, ends.lengths, can.same) in z) ∙ sym (length-append r.jobs js);
        first = ap make (same_work js ns (more_lengths p j) counted kept_same) ∙ d.first;
        place = refl;
        running = d.running;
        released = d.released;
        stands = stands_added r (list_plan p j).schedule (suc n) js ns (list_plan p (suc j)).schedule ends.stands (even p j f r followed at_end) can;
      }

  -- ---- as the code has it

  later_can : (r.start ≤ suc n) × CanBegin r (suc n - r.start) (new_jobs t (modes_at t es (suc n)) (suc n % frame_of t) (length r.jobs)) (kept_lengths takes (new_jobs t (modes_at t es (suc n)) (suc n % frame_of t) (length r.jobs)))
  later_can = (let down = past t lists es run n in omega (arith, ends.start, down), subst (λ ks. CanBegin r (suc n - r.start) ks (kept_lengths takes ks)) jobs_are can)

  later_s_machine : SMachineAt (list_turn t lists es (suc n)).plan (list_turn t lists es (suc n)).frame 0 (suc n - (list_turn t lists es (suc n)).frame) (list_begun t (modes_at t es (suc n)) takes (suc n) r)
  later_s_machine =
      let first = new_jobs t (modes_at t es (suc n)) (suc n % frame_of t) 0 in
      let new = new_jobs t (modes_at t es (suc n)) (suc n % frame_of t) (length r.jobs) in
      let own : added r (suc n) js (kept_lengths takes js) ≡ list_begun t (modes_at t es (suc n)) takes (suc n) r =
      ap (λ ks. added r (suc n) ks (kept_lengths takes ks)) jobs_are
      ∙ sym (ap (λ b. cond b (round_begun (suc n) first (kept_lengths takes first)) (added r (suc n) new (kept_lengths takes new))) (ne_eqb (suc n % frame_of t) 0 more)) in
      let next : list_turn t lists es (suc n) ≡ turn_of t lists es f (suc j) = ap₂ (turn_of t lists es) frame_is list_is in
      subst (SMachineAt (list_turn t lists es (suc n)).plan (list_turn t lists es (suc n)).frame 0 (suc n - (list_turn t lists es (suc n)).frame)) own
      (subst (λ (w : Turn). SMachineAt w.plan w.frame 0 (suc n - w.frame) (added r (suc n) js (kept_lengths takes js))) (sym next)
      (subst (λ d. SMachineAt (list_plan p (suc j)) f 0 d (added r (suc n) js (kept_lengths takes js))) leg_is s_machine))

pub lists_are_begun : ListsAreBegun
lists_are_begun t lists es run at takes r here takes_are ends = elim (cases_eq (at % frame_of t) 0) [
  | inl e ↦ (
    record { first = λ z. first_can t lists es run at here e takes takes_are; more = λ z. absurd (omega (arith, e, z)) },
    first_s_machine t lists es run at here e takes takes_are r,
  )
  | inr d ↦ behind at here takes_are ends d
]
  where
    some : (a : ℕ) → a ≢ 0 → 0 < a
    some zero d = absurd (d refl)
    some (suc a) d = omega arith

    behind : (at : ℕ) → (list_turn t lists es at).frame + (list_turn t lists es at).from ≡ at → ((i u : ℕ) → at ≤ u → get_or takes i 0 ≡ took t es i u) → IsAtEnd t lists es at r → at % frame_of t ≢ 0
        → (let u = list_turn t lists es at in CanStart t (modes_at t es at) takes at r × SMachineAt u.plan u.frame 0 (at - u.frame) (list_begun t (modes_at t es at) takes at r))
    behind zero here takes_are ends d = absurd (d (let z : 0 % frame_of t ≡ 0 = omega arith in z))
    behind (suc n) here takes_are ends d =
        let at_end = ends (some (suc n % frame_of t) d) in (
          record { first = λ z. absurd (d z); more = λ z. later_can t lists es run n here d takes takes_are r at_end },
          later_s_machine t lists es run n here d takes takes_are r at_end,
        )
