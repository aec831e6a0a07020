-- A run whose lists are feasible goes on list by list, whatever the periods of its root modules.
use Rattle.std.proofs.Common.{◌≡◌, ℕ, zero, suc, ◌+◌, ◌-◌, ◌*◌, ◌/◌, ◌%◌, ◌≤◌, ◌<◌, ◌⊎◌, true, false, leb, is_some, pred, List, [], ◌∷◌, ◌++◌, length, get_or, map, slice_get, take, Option, Some, None, refl, sym, ap, ap₂, ◌∙◌, subst, arith, length-append, inl, inr}
use mathlib.Core.Path.{fun_ext}
use Rattle.htl_runs.proofs.Words.{le-leb, lt-leb, cases_eq, append_assoc, length-map, length-take, div-add-mod, mod-lt, Event, Place, frame_of, node, starts, rounds, root_periods, begins, known_by, multiple_of, starts_below, nodes, root_modules, Tables, is_concrete, task_worst, Inv, get_list_to, Job, SInstr, placed_job, next_of, Leg, AreInForm, list_point, end_to_end, path_point, HaveLengths, AreWithinWorst, Left, Point, InForm, job_at, work, first_point, last_point, finish, nodes_within, job_there, work_present, derived_place, Frame, path_of, frame_modes, frame_places, frame_at, walks_of, walk_of, place, standing_places, no_leg, leg_at, list_plan, list_walk, records_before, count_left_before, done_by, IsServing, IsFeasibleRun, front_there, job_front, mapped, count_split, done_split, legs_many, leg_from, leg_knows, begins_by, form_at, list_walks, placed_present, paths_read, places_ordered, states_are_selections, round_of, run_of, frames_are_served, have_lengths, within_worst, paths_are, work_done, length-walk, frame_start, begun_by, Now, AreFrames, Turn, turn_walk, records_so_far, AreTurns, IsTurn, IsListed, AreListed, now_of, turn_of, begun_of, list_number, list_turn, RunsGoByLists, not_some, goes_on, round_down, get_taken, same_Some}
use Rattle.htl_walk.proofs.Starts.{Rises, starts_rise, first_start, known_few}
use Rattle.htl_runs.proofs.{frames.PlacedStays.at_place_is, lists.ListValues.take_front, frames.RunFrames.feasible_runs, values.Periods.begins_or_not}
use Rattle.htl_runs.proofs.lists.ListStarts.{StandsAt, stands_at, some_begun, begun_next, ends_next, ends_within, known_same}

-- the records of list j among those of its frame
split_at : (ws : List (List Left)) (j : ℕ) (x : List Left) → slice_get ws j ≡ Some x → (rest : List Left) × (end_to_end ws ≡ (end_to_end (take j ws) ++ x) ++ rest)
split_at [] j x e = not_some x e
split_at (w ∷ ws) zero x e = (end_to_end ws, ap (λ z. z ++ end_to_end ws) (same_Some w x e))
split_at (w ∷ ws) (suc j) x e = grind (arith, append_assoc, split_at ws j x e)

-- a list begins at its leg's start
point_time : (jobs : List Job) (ss : List (List SInstr)) (gs : List Leg) (j : ℕ) (x : Point) → AreInForm ss gs → j < length gs → (path_point jobs ss gs j 0 x).time ≡ (get_or gs j no_leg).from
point_time jobs [] [] j x f l = absurd (omega (arith, l))
point_time jobs [] (g ∷ gs) j x f l = absurd f
point_time jobs (s ∷ ss) [] j x f l = absurd f
point_time jobs (s ∷ ss) (g ∷ gs) zero x f l = refl
point_time jobs (s ∷ ss) (g ∷ gs) (suc j) x f l = point_time jobs ss gs j (last_point jobs s (list_point g.from x)) f.1 (omega (arith, l))

module _ (t : Tables) (lists : List (List SInstr)) (es : List Event) (run : IsFeasibleRun t lists es) where
  abbrev from : List ℕ
  from = starts t

  abbrev turn : ℕ → Turn
  turn = list_turn t lists es

  pub rise : Rises (root_periods t) (frame_of t) (starts t)
  rise = starts_rise (root_periods t) (frame_of t)

  pub first : next_of (frame_of t) (starts t) ≡ 0
  first = grind (arith, first_start)

  -- ---- the frame of an instant

  abbrev frame : ℕ → Frame
  frame n = frame_at t lists es (frame_start t n)

  abbrev places : ℕ → List Place
  places n = frame_places t (frame_modes t es (frame_start t n))

  pub past : (n : ℕ) → frame_start t n ≤ n
  past n = round_down (frame_of t) n

  pub before_end : (n : ℕ) → n - frame_start t n < frame_of t
  before_end n =
      omega (arith, div-add-mod n (frame_of t), mod-lt n run.ticks)

  pub serving : (n : ℕ) → IsServing (frame n) (frame_of t)
  serving n = frames_are_served t lists es (frame_start t n) run

  -- ---- the list that stands

  pub number : (n : ℕ) → (k : ℕ) × (begun_of (n - frame_start t n) (starts t) ≡ suc k)
  number n = some_begun (frame_of t) (n - frame_start t n) (starts t) run.ticks first

  pub number_is : (n : ℕ) → (turn n).list ≡ (number n).0
  number_is n = ap pred (number n).1

  pub stands : (n : ℕ) → StandsAt (root_periods t) (frame_of t) (places n) (starts t) (n - frame_start t n) (turn n).list
  stands n =
      subst (StandsAt (root_periods t) (frame_of t) (places n) (starts t) (n - frame_start t n)) (sym (number_is n))
      (stands_at (root_periods t) (frame_of t) (n - frame_start t n) (places n) (starts t) rise (before_end n) (number n).0 (number n).1)

  pub there : (n : ℕ) → (turn n).list < length (frame n).legs
  there n = omega (arith, (stands n).there, legs_many (frame_of t) (places n) (starts t))

  -- there is its node
  pub node_below : (n : ℕ) → (turn n).node < nodes t
  node_below n =
      let modes = frame_modes t es (frame_start t n) in
      let read = paths_read t modes (λ a. states_are_selections t run.range es (frame_start t n + a)) in
      nodes_within t (path_of t modes) (turn n).list (omega (arith, read.below, paths_are t run.modules)) ((stands n).there)

  -- its instructions are those of its node's list
  pub code_is : (n : ℕ) → (turn n).plan.schedule ≡ get_or lists (turn n).node []
  code_is n = grind (arith, there, legs_many, get_list_to)

  pub from_is : (n : ℕ) → (turn n).from ≡ get_or (starts t) (turn n).list 0
  from_is n = leg_from (frame_of t) (places n) (starts t) (turn n).list (stands n).there

  pub known_is : (n : ℕ) → (leg_at (frame n) (turn n).list).known ≡ begun_by t es (frame_start t n) n
  known_is n =
      let a = get_or (starts t) (turn n).list 0 in
      leg_knows (frame_of t) (places n) (starts t) (turn n).list (stands n).there ∙ known_same a (n - frame_start t n) (places n) (λ p x at. same p x at (three x.at a (n - frame_start t n)))
    where
      three : (x a d : ℕ) → (x ≤ a) ⊎ (((a < x) × (x ≤ d)) ⊎ ((a < x) × (d < x)))
      three x a d = grind arith

      same : (p : ℕ) (x : Place) → slice_get (places n) p ≡ Some x
          → (x.at ≤ get_or (starts t) (turn n).list 0) ⊎ (((get_or (starts t) (turn n).list 0 < x.at) × (x.at ≤ n - frame_start t n)) ⊎ ((get_or (starts t) (turn n).list 0 < x.at) × (n - frame_start t n < x.at)))
          → leb x.at (get_or (starts t) (turn n).list 0) ≡ leb x.at (n - frame_start t n)
      same p x at (inl early) = le-leb x.at (get_or (starts t) (turn n).list 0) early ∙ sym (le-leb x.at (n - frame_start t n) (omega (arith, early, (stands n).begun)))
      same p x at (inr (inr late)) = lt-leb x.at (get_or (starts t) (turn n).list 0) late.0 ∙ sym (lt-leb x.at (n - frame_start t n) late.1)
      same p x at (inr (inl between)) =
          let s = stands n in
          let r = run_of t (frame_modes t es (frame_start t n)) (rounds t) p x at in
          let root = round_of t r.0 r.1 r.2 in
          let own : x.at ≡ r.1.at = ap (λ (z : Place). z.at) r.6 in
          let quiet : begins (root_periods t) r.1.at ≡ false = s.quiet r.1.at (omega (arith, between.0, own)) (omega (arith, between.1, own, s.before)) in
          absurd (let z : true ≡ false = sym (begins_by t (root_modules t) root.0 r.1.unit r.1.at root.1 root.2) ∙ quiet in let y : ⊥ = cc in y)

  pub few : (n : ℕ) → (leg_at (frame n) (turn n).list).known ≤ length (frame n).jobs
  few n = grind (arith, known_is, known_few, length-map)

  pub length-jobs : (n : ℕ) → length (turn n).plan.jobs ≡ (leg_at (frame n) (turn n).list).known
  length-jobs n = let less = few n in length-take (leg_at (frame n) (turn n).list).known (frame n).jobs ∙ omega (arith, less)

  -- each job is of a concrete invocation, with its worst case
  pub job_is_of : (n p : ℕ) (j : Job) → slice_get (turn n).plan.jobs p ≡ Some j → j.present ≡ true → (x : Inv) × (slice_get t.invs j.inv ≡ Some x) × (is_concrete t x ≡ true) × (j.worst ≡ task_worst t x.task)
  job_is_of n p j at here =
      let f = frame_start t n in
      let ys = standing_places t es f in
      let m = known_by (n - f) (places n) in
      let y = mapped (placed_job t ys) ys p j (front_there (leg_at (frame n) (turn n).list).known (frame n).jobs p j at).0 in
      let c = placed_present t ys y.0.at y.0.inv j y.2 here in
      let inv : j.inv ≡ c.0 = sym (ap (λ (z : Job). z.inv) c.4) in
      let spot : slice_get ys p ≡ Some (place c.0 y.0.at) = y.1 ∙ ap (λ (o : Option ℕ). let z : Place = record { inv = o; at = y.0.at } in Some z) c.2 in
      let w = at_place_is t es n f m run.range run.kept refl (past n) (let less = before_end n in omega (arith, less, past n)) (places_ordered t es f (n - f) run.range run.kept) p c.0 y.0.at spot in
      (c.1, ap (slice_get t.invs) inv ∙ c.3, ap (is_concrete t) (sym (same_Some _ _ (sym w.known ∙ c.3))) ∙ w.concrete, sym (ap (λ (z : Job). z.worst) c.4))

  -- ---- its records

  is_turn : (n : ℕ) → IsTurn (turn n) (walk_of (frame n)) n
  is_turn n =
      let s = stands n in
      let p = frame n in
      let j = (turn n).list in
      let d = n - frame_start t n in
      let rest = split_at (walks_of p) j (list_walk (list_plan p j)) (list_walks p j (serving n).forms (there n)) in
      let begins_before : (leg_at p j).from ≤ d = omega (arith, from_is n, s.begun) in
      let one : suc n - frame_start t n ≡ suc d = omega (arith, past n) in
      let two : suc (suc n) - frame_start t n ≡ suc (suc d) = omega (arith, past n) in
      record {
        past = omega (arith, begins_before, past n);
        rest = rest.0;
        front = rest.1;
        count = count_split p (frame_of t) j (suc n - frame_start t n) (serving n) (there n) (omega (arith, begins_before, past n)) (omega (arith, s.before, past n));
        upto = λ q.
            ap (λ z. done_by (walk_of p) (count_left_before z (walk_of p)) q) two
            ∙ done_split p (frame_of t) j (suc d) q (serving n) (there n) (omega (arith, begins_before)) (omega (arith, s.before))
            ∙ ap (λ z. done_by (walk_of p) (records_before p j + count_left_before z (list_walk (list_plan p j))) q) (sym two);
      }

  pub are_turns : AreTurns t es (list_turn t lists es)
  are_turns =
      record {
        walk = λ n. walk_of (frame n);
        frames = subst (AreFrames t es) (fun_ext same) (feasible_runs t lists es run);
        each = is_turn;
      }
    where
      same : (n : ℕ) → ◌≡◌ {A = Now} (now_of t lists es n) (record { frame = (turn n).frame; jobs = (turn n).plan.jobs; walk = walk_of (frame n) })
      same n = ap (λ k. let r : Now = record { frame = frame_start t n; jobs = take k (frame n).jobs; walk = walk_of (frame n) } in r) (sym (known_is n))

  -- ---- what it keeps

  pub lasts : (n : ℕ) → HaveLengths (turn n).plan.jobs (turn n).plan.lengths
  lasts n p j at here = grind (arith, front_there, have_lengths, get_taken)

  most : (n : ℕ) → AreWithinWorst (turn n).plan.jobs (turn n).plan.lengths
  most n p j at here = grind (arith, front_there, within_worst, get_taken)

  worked : (n k p : ℕ) → p < length (turn n).plan.jobs → k ≤ length (turn n).plan.schedule → (job_at (turn n).plan.jobs p).present ≡ true
      → get_or (last_point (turn n).plan.jobs (take k (turn n).plan.schedule) (turn n).plan.first).left p 0 ≡ 0 → done_by (records_so_far (turn n)) (length (turn n).earlier + k) p ≡ true
  worked n k p below less here none =
      let u = turn n in
      let q = frame n in
      let known : p < (leg_at q u.list).known = omega (arith, below, length-jobs n) in
      let present : (job_at q.jobs p).present ≡ true = ap (λ (z : Job). z.present) (sym (job_front (leg_at q u.list).known q.jobs p known)) ∙ here in
      let at = job_there q.jobs p present in
      let lasts = have_lengths t (frame_modes t es (frame_start t n)) es (frame_start t n) run.range run.within (places n) p (job_at q.jobs p) at present in
      let some : 0 < get_or (work q.jobs q.lengths) p 0 = omega (arith, lasts, work_present q.jobs q.lengths p (job_at q.jobs p) at present) in
      let all = work_done q (frame_of t) u.list k p (serving n) (there n) known less some none in
      let long : length u.earlier + k ≤ length (records_so_far u) = omega (arith, less, length-append u.earlier (turn_walk u), length-walk u.plan.jobs u.plan.schedule u.plan.first) in
      sym (ap (λ (ls : List Left). is_some (finish ls p)) (ap (take (length u.earlier + k)) (is_turn n).front ∙ take_front (records_so_far u) (is_turn n).rest (length u.earlier + k) long)) ∙ all

  is_listed : (n : ℕ) → IsListed (turn n)
  is_listed n =
      let u = turn n in
      let s = stands n in
      record {
        form = subst (λ m. InForm m u.to u.plan.schedule) (sym (length-jobs n)) (form_at (frame n).lists (frame n).legs u.list (serving n).forms (there n));
        time = point_time (frame n).jobs (frame n).lists (frame n).legs u.list (first_point (frame n).jobs (frame n).lengths) (serving n).forms (there n);
        order = omega (arith, from_is n, s.begun, s.before);
        least = lasts n;
        most = most n;
        worked = worked n;
      }

  -- ---- how it goes on

  ends : (n : ℕ) → (turn n).to ≤ frame_of t
  ends n = ends_within (root_periods t) (frame_of t) (places n) (starts t) (turn n).list rise (stands n).there

  goes : (n : ℕ) → (turn (suc n) ≡ turn n) ⊎ (((turn (suc n)).frame + (turn (suc n)).from ≡ suc n) × ((turn n).frame + (turn n).to ≡ suc n))
  goes n = elim (begins_or_not (frame_of t) n run.ticks) [
    | inl e ↦ inr (
      (let s = stands (suc n) in omega (arith, e, from_is (suc n), s.begun)),
      elim (cases_eq (suc n) (frame_of t * (n / frame_of t) + frame_of t)) [
        | inl over ↦ (let s = stands n in omega (arith, over, s.before, ends n, past n))
        | inr d ↦ absurd (omega (arith, e, goes_on (frame_of t) n run.ticks d, past n))
      ],
    )
    | inr on ↦ by on (begun_next (root_periods t) (frame_of t) (n - frame_start t n) (starts t) rise)
  ]
    where
      by : frame_start t (suc n) ≡ frame_start t n
          → (begun_of (suc (n - frame_start t n)) (starts t) ≡ begun_of (n - frame_start t n) (starts t))
          ⊎ ((begun_of (suc (n - frame_start t n)) (starts t) ≡ suc (begun_of (n - frame_start t n) (starts t))) × (begun_of (n - frame_start t n) (starts t) < length (starts t))
          × (get_or (starts t) (begun_of (n - frame_start t n) (starts t)) 0 ≡ suc (n - frame_start t n)))
          → (turn (suc n) ≡ turn n) ⊎ (((turn (suc n)).frame + (turn (suc n)).from ≡ suc n) × ((turn n).frame + (turn n).to ≡ suc n))
      by on (inl same) =
          inl (ap₂ (turn_of t lists es) on (ap (λ z. list_number z (starts t)) (omega (arith, on, past n)) ∙ ap pred same))
      by on (inr next) =
          let was : begun_of (n - frame_start t n) (starts t) ≡ suc (turn n).list = (number n).1 ∙ ap suc (sym (number_is n)) in
          let is : (turn (suc n)).list ≡ suc (turn n).list = ap (λ z. list_number z (starts t)) (omega (arith, on, past n)) ∙ ap pred next.0 ∙ was in
          let at : get_or (starts t) (suc (turn n).list) 0 ≡ suc (n - frame_start t n) = ap (λ z. get_or (starts t) z 0) (sym was) ∙ next.2 in
          let old : (turn n).to ≡ suc (n - frame_start t n) = ends_next (frame_of t) (places n) (starts t) (turn n).list (omega (arith, next.1, was)) ∙ at in
          inr (omega (arith, from_is (suc n) ∙ ap (λ z. get_or (starts t) z 0) is ∙ at, on, past n), omega (arith, old, past n))

  pub are_listed : AreListed (list_turn t lists es)
  are_listed = grind (arith, is_listed, first, stands, past, from_is, goes)

pub runs_go_by_lists : RunsGoByLists
runs_go_by_lists t lists es run = (are_turns t lists es run, are_listed t lists es run)
