-- A length more: the lists of a run have left the same before it, and the S machine stands in the list as it takes so long.
use Rattle.std.proofs.Common.{◌≡◌, ◌≢◌, ℕ, suc, ◌+◌, ◌-◌, ◌≤◌, ◌<◌, ◌⊎◌, Bool, true, false, cond, ◌&&◌, eqb, leb, ltb, List, [], ◌∷◌, ◌++◌, length, get_or, map, slice_get, set, take, Option, Some, None, refl, sym, ap, ap₂, ◌∙◌, subst, arith, inl, inr, option_map}
use mathlib.Core.Path.{fun_ext}
use Rattle.htl_runs.proofs.Words.{eq-eqb, ne_eqb, le-leb, ltb-true, ltb-false, cases_lt, nat_tests, get_or-set_same, get_or-set_other, length-set, length-take, slice_get_within, same_Some, Event, State, Stay, frame_of, starts, node, Tables, Job, SInstr, lists_of, AgreeBefore, legs_of, end_to_end, HaveLengths, Point, Left, job_at, work, first_point, job_there, work_present, job_is, Round, state_of, state_by, absent_idle, Frame, frame_modes, frame_places, frame_jobs, frame_at, path_of, walks_of, leg_at, list_start, list_plan, count_left_before, lengths_of, took, IsTookWithin, AreTookWithin, IsServing, IsFeasibleRun, point_long, job_front, later_time, later_released, later_unreleased, later_walks, lengths_later, walk_rises, have_lengths, frame_start, reading_of, SMachineAt, SMachineStands, with_length, set_pending, s_machine_taking, Turn, turn_walk, list_number, list_turn, position_from, get_taken, work_length, same_number_lists}
use Rattle.htl_model.specs.declared.event.Event.TheVariants as V
use Rattle.htl_smach.specs.Rounds as rounds
use Rattle.htl_runs.proofs.{frames.JobWindows.get_map, frames.JobWindows.position_some, frames.JobWindows.position_none, records.SMachineInstants.s_machine_opens, events.NextReading.within_more, instants.SMachineSteps.windows}
use Rattle.htl_runs.proofs.{events.SameSensors.state_same, events.SameSensors.sense_took, events.SameSensors.took_took, events.SameSensors.front_is, events.SameSensors.length-front, events.SameRecords.AreSoFar}
use Rattle.htl_runs.proofs.lists.RunLists.{past, serving, stands, there, from_is, few, length-jobs, are_turns, are_listed}
use Rattle.htl_runs.proofs.{records.InstantRecords.none_before, instants.ToldReleases.done_late}

module _ (t : Tables) (lists : List (List SInstr)) (es : List Event) (run : IsFeasibleRun t lists es) (i n : ℕ) (fits : IsTookWithin t (V.Took i n)) (now : ℕ) (reading : now ≡ reading_of 0 es) where
  abbrev fs : List Event
  fs = es ++ V.Took i n ∷ []

  within' : AreTookWithin t (es ++ V.Took i n ∷ [])
  within' = within_more t es (V.Took i n) run.within fits

  tooks : (j u : ℕ) → took t fs j u ≡ cond (eqb j i && leb now u) n (took t es j u)
  tooks j u = took_took t es i n j u ∙ ap (λ r. cond (eqb j i && leb r u) n (took t es j u)) (sym reading)

  early_took : (j u : ℕ) → u < now → took t fs j u ≡ took t es j u
  early_took j u h = tooks j u ∙ ap (λ b. cond b n (took t es j u)) (let z : (eqb j i && leb now u) ≡ false = grind (arith, nat_tests) in z)

  other_took : (j u : ℕ) → j ≢ i → took t fs j u ≡ took t es j u
  other_took j u h = tooks j u ∙ ap (λ b. cond (b && leb now u) n (took t es j u)) (ne_eqb j i h)

  late_took : (u : ℕ) → now ≤ u → took t fs i u ≡ n
  late_took u h = tooks i u ∙ ap₂ (λ a b. cond (a && b) n (took t es i u)) (eq-eqb i i refl) (le-leb now u h)

  -- the modes are the same at all times
  modes_same : (f : ℕ) → frame_modes t es f ≡ frame_modes t fs f
  modes_same f = grind (arith, state_same, sense_took)

  -- ---- the list that stands at m

  module _ (m : ℕ) (started : m < now) where
    abbrev f : ℕ
    f = frame_start t m

    abbrev j : ℕ
    j = list_number (m - frame_start t m) (starts t)

    abbrev p : Frame
    p = frame_at t lists es (frame_start t m)

    abbrev ms : List ℕ
    ms = lengths_of t (es ++ V.Took i n ∷ []) (frame_start t m) (frame_at t lists es (frame_start t m)).jobs

    -- the frame with the lengths of the events with the length
    abbrev g : Frame
    g = record (frame_at t lists es (frame_start t m)) { lengths = lengths_of t (es ++ V.Took i n ∷ []) (frame_start t m) (frame_at t lists es (frame_start t m)).jobs }

    abbrev u : Turn
    u = list_turn t lists es m

    -- the list with these lengths
    abbrev v : Turn
    v =
        record {
          frame = frame_start t m;
          list = list_number (m - frame_start t m) (starts t);
          from = (leg_at g j).from;
          to = (leg_at g j).to;
          node = node t (path_of t (frame_modes t es (frame_start t m))) (list_number (m - frame_start t m) (starts t));
          plan = list_plan g j;
          earlier = end_to_end (take j (walks_of g));
        }

    later_is : list_turn t lists (es ++ V.Took i n ∷ []) m ≡ v
    later_is = ap by (sym (modes_same f))
      where
        by : (ℕ → List (Option ℕ)) → Turn
        by modes =
            let jobs = frame_jobs t modes in
            let q : Frame = record { jobs = jobs; lengths = lengths_of t fs f jobs; lists = lists_of t lists (path_of t modes); legs = legs_of (frame_of t) (frame_places t modes) (starts t) } in
            record { frame = f; list = j; from = (leg_at q j).from; to = (leg_at q j).to; node = node t (path_of t modes) j; plan = list_plan q j; earlier = end_to_end (take j (walks_of q)) }

    begun : (leg_at p j).from ≤ m - f
    begun = let s = stands t lists es run m in omega (arith, from_is t lists es run m, s.begun)

    here : j < length p.legs
    here = there t lists es run m

    form : IsServing p (frame_of t)
    form = serving t lists es run m

    least : HaveLengths p.jobs p.lengths
    least = have_lengths t (frame_modes t es f) es f run.range run.within (frame_places t (frame_modes t es f))

    more : HaveLengths p.jobs ms
    more = have_lengths t (frame_modes t es f) fs f run.range within' (frame_places t (frame_modes t es f))

    agree : (e : ℕ) → f + e ≤ now → AgreeBefore e p.jobs p.lengths ms
    agree e early r k at present h = grind (arith, get_map, early_took)

    down : f ≤ m
    down = past t lists es run m

    reach : f + (now - f) ≤ now
    reach = omega (arith, down, started)

    soon : (leg_at p j).from < now - f
    soon = omega (arith, begun, down, started)

    -- ---- what it has left

    time_is : u.plan.first.time ≡ (leg_at p j).from
    time_is = ((are_listed t lists es run).each m).time

    same_time : u.plan.first.time ≡ v.plan.first.time
    same_time = later_time p ms (frame_of t) (now - f) j form.forms form.chain here soon least more (agree (now - f) reach)

    at_first : (e : ℕ) → e ≤ (leg_at p j).from → (count_left_before e (turn_walk u) ≡ 0) × (count_left_before e (turn_walk v) ≡ 0)
    at_first e low = (
      none_before e u.plan.first.time (turn_walk u) (walk_rises u.plan.jobs u.plan.schedule u.plan.first) (omega (arith, low, time_is)),
      none_before e v.plan.first.time (turn_walk v) (walk_rises v.plan.jobs v.plan.schedule v.plan.first) (omega (arith, low, time_is, same_time)),
    )

    fronts : (e : ℕ) → f + e ≤ now → take (count_left_before e (turn_walk u)) (turn_walk u) ≡ take (count_left_before e (turn_walk v)) (turn_walk v)
    fronts e early = elim (cases_lt (leg_at p j).from e) [
      | inl some ↦
          front_is u.plan.first.time e (turn_walk u) (walk_rises u.plan.jobs u.plan.schedule u.plan.first)
          ∙ lengths_later p ms (frame_of t) e j form.forms form.chain here some least more (agree e early)
          ∙ sym (front_is v.plan.first.time e (turn_walk v) (walk_rises v.plan.jobs v.plan.schedule v.plan.first))
      | inr low ↦ (let z = at_first e low in ap (λ c. take c (turn_walk u)) z.0 ∙ sym (ap (λ c. take c (turn_walk v)) z.1))
    ]

    counts : (e : ℕ) → f + e ≤ now → count_left_before e (turn_walk u) ≡ count_left_before e (turn_walk v)
    counts e early = sym (length-front e (turn_walk u)) ∙ ap (λ (ls : List Left). length ls) (fronts e early) ∙ length-front e (turn_walk v)

    same_so_far : AreSoFar u v now
    same_so_far =
        record {
          frame = refl;
          from = refl;
          node = refl;
          jobs = refl;
          code = refl;
          earlier = ap end_to_end (later_walks p ms (frame_of t) (now - f) j form.forms form.chain here soon least more (agree (now - f) reach));
          count = counts;
          front = fronts;
        }

    pub took_so_far : AreSoFar (list_turn t lists es m) (list_turn t lists (es ++ V.Took i n ∷ []) m) now
    took_so_far = subst (λ w. AreSoFar u w now) (sym later_is) same_so_far

    -- ---- the point at which it begins

    abbrev known : ℕ
    known = (leg_at p j).known

    abbrev jobs : List Job
    jobs = u.plan.jobs

    length-left : (length u.plan.first.left ≡ known) × (length v.plan.first.left ≡ known)
    length-left =
        let enough = few t lists es run m in (
          length-take known (list_start p j).left ∙ (let z = point_long p.jobs p.lists p.legs j (first_point p.jobs p.lengths) in let y = work_length p.jobs p.lengths in omega (arith, enough, z, y)),
          length-take known (list_start g j).left ∙ (let z = point_long p.jobs p.lists p.legs j (first_point p.jobs ms) in let y = work_length p.jobs ms in omega (arith, enough, z, y)),
        )

    fronted : (q : ℕ) → q < known → (get_or u.plan.first.left q 0 ≡ get_or (list_start p j).left q 0) × (get_or v.plan.first.left q 0 ≡ get_or (list_start g j).left q 0)
    fronted q less = (get_taken known (list_start p j).left q less, get_taken known (list_start g j).left q less)

    -- the length of a present position
    own_work : (ns : List ℕ) (q : ℕ) → (job_at p.jobs q).present ≡ true → get_or (work p.jobs ns) q 0 ≡ get_or ns q 0
    own_work ns q present = work_present p.jobs ns q (job_at p.jobs q) (job_there p.jobs q present) present

    took_at : (q : ℕ) → (job_at p.jobs q).present ≡ true
        → (get_or p.lengths q 0 ≡ took t es (job_at p.jobs q).inv (f + (job_at p.jobs q).release)) × (get_or ms q 0 ≡ took t fs (job_at p.jobs q).inv (f + (job_at p.jobs q).release))
    took_at q present =
        let at = job_there p.jobs q present in
        (get_map (λ z. took t es z.inv (f + z.release)) p.jobs q (job_at p.jobs q) 0 at, get_map (λ z. took t fs z.inv (f + z.release)) p.jobs q (job_at p.jobs q) 0 at)

    left_same : (q : ℕ) → q < known → ((job_at p.jobs q).present ≡ true → (job_at p.jobs q).inv ≡ i → f + (job_at p.jobs q).release < now) → get_or u.plan.first.left q 0 ≡ get_or v.plan.first.left q 0
    left_same q less early = (fronted q less).0 ∙ by (cases_lt (job_at p.jobs q).release (now - f)) ∙ sym (fronted q less).1
      where
        late_work : now - f ≤ (job_at p.jobs q).release → (b : Bool) → (job_at p.jobs q).present ≡ b → get_or (work p.jobs p.lengths) q 0 ≡ get_or (work p.jobs ms) q 0
        late_work late false e = absent_idle p.jobs p.lengths q e ∙ sym (absent_idle p.jobs ms q e)
        late_work late true e =
            let is = took_at q e in
            let other : (job_at p.jobs q).inv ≢ i = λ mine. let before = early e mine in omega (arith, before, late, down, started) in
            own_work p.lengths q e ∙ is.0 ∙ sym (other_took (job_at p.jobs q).inv (f + (job_at p.jobs q).release) other) ∙ sym is.1 ∙ sym (own_work ms q e)

        by : ((job_at p.jobs q).release < now - f) ⊎ (now - f ≤ (job_at p.jobs q).release) → get_or (list_start p j).left q 0 ≡ get_or (list_start g j).left q 0
        by (inl released) = later_released p ms (frame_of t) (now - f) j form.forms form.chain here soon least more (agree (now - f) reach) q released
        by (inr late) =
            let z = later_unreleased p ms (frame_of t) (now - f) j form.forms form.chain here soon least more (agree (now - f) reach) q late in
            z.0 ∙ late_work late (job_at p.jobs q).present refl ∙ sym z.1

    left_set : (q : ℕ) → q < known → (job_at p.jobs q).present ≡ true → (job_at p.jobs q).inv ≡ i → now ≤ f + (job_at p.jobs q).release → get_or v.plan.first.left q 0 ≡ n
    left_set q less present mine late =
        let z = later_unreleased p ms (frame_of t) (now - f) j form.forms form.chain here soon least more (agree (now - f) reach) q (omega (arith, late)) in
        (fronted q less).1 ∙ z.1 ∙ own_work ms q present ∙ (took_at q present).1 ∙ ap (λ z. took t fs z (f + (job_at p.jobs q).release)) mine ∙ late_took (f + (job_at p.jobs q).release) late

    abbrev point_of : ℕ → List ℕ → Point
    point_of time left = record { time = time; left = left }

    first_kept : ((q : ℕ) → q < known → (job_at p.jobs q).present ≡ true → (job_at p.jobs q).inv ≡ i → f + (job_at p.jobs q).release < now) → u.plan.first ≡ v.plan.first
    first_kept early =
        let lefts : u.plan.first.left ≡ v.plan.first.left = same_number_lists u.plan.first.left v.plan.first.left (length-left.0 ∙ sym length-left.1) (λ q less. let k : q < known = omega (arith, less, length-left.0) in left_same q k (early q k)) in
        ap₂ point_of same_time lefts

    first_set : (d : ℕ) → d < known → (job_at p.jobs d).present ≡ true → (job_at p.jobs d).inv ≡ i → now ≤ f + (job_at p.jobs d).release
        → ((q : ℕ) → q < known → q ≢ d → (job_at p.jobs q).present ≡ true → (job_at p.jobs q).inv ≡ i → f + (job_at p.jobs q).release < now)
        → point_of u.plan.first.time (set u.plan.first.left d n) ≡ v.plan.first
    first_set d below present mine late early =
        let lefts : set u.plan.first.left d n ≡ v.plan.first.left =
        same_number_lists (set u.plan.first.left d n) v.plan.first.left (length-set u.plan.first.left d n ∙ length-left.0 ∙ sym length-left.1)
        (λ q less. at q (omega (arith, less, length-set u.plan.first.left d n, length-left.0)) (apart q d)) in
        ap₂ point_of same_time lefts
      where
        apart : (a b : ℕ) → (a ≡ b) ⊎ (a ≢ b)
        apart a b = grind arith

        at : (q : ℕ) → q < known → (q ≡ d) ⊎ (q ≢ d) → get_or (set u.plan.first.left d n) q 0 ≡ get_or v.plan.first.left q 0
        at q less (inl e) =
            ap (λ z. get_or (set u.plan.first.left d n) z 0) e ∙ get_or-set_same u.plan.first.left d n 0 (omega (arith, below, length-left.0))
            ∙ sym (ap (λ z. get_or v.plan.first.left z 0) e ∙ left_set d below present mine late)
        at q less (inr other) = get_or-set_other u.plan.first.left d q n 0 other ∙ left_same q less (early q less other)

    -- ---- the S machine

    job_of : (q : ℕ) (k : Job) → slice_get jobs q ≡ Some k → (q < known) × (job_at p.jobs q ≡ k)
    job_of q k at =
        let less : q < known = omega (arith, slice_get_within jobs q k at, length-jobs t lists es run m) in
        (less, sym (job_front known p.jobs q less) ∙ job_is jobs q k at)

    -- who isn't released yet is at the invocation's last position
    only : now ≡ suc m → (d q : ℕ) → position_from 0 jobs i ≡ Some d → q < known → (job_at p.jobs q).present ≡ true → (job_at p.jobs q).inv ≡ i → now ≤ f + (job_at p.jobs q).release → q ≡ d
    only next d q last less present mine late =
        let front : job_at jobs q ≡ job_at p.jobs q = job_front known p.jobs q less in
        let present' : (job_at jobs q).present ≡ true = ap (λ (z : Job). z.present) front ∙ present in
        let at = job_there jobs q present' in
        let turns = are_turns t lists es run in
        let window = windows t run.range es (list_turn t lists es) turns m q (job_at jobs q) at present' in
        let jobs_so_far = turns.frames.jobs_so_far m in
        let st = jobs_so_far.stands q (job_at jobs q) at present' (omega (arith, late, window, ap (λ (z : Job). z.release) front, next)) in
        let inv : (job_at jobs q).inv ≡ i = ap (λ (z : Job). z.inv) front ∙ mine in
        let h = jobs_so_far.has (job_at jobs q).inv st.0 st.1 st.2 in
        sym (jobs_so_far.once h.0 q (job_at jobs q).inv st.1 st.0 h.1 st.3) ∙ same_Some _ _ (sym h.2 ∙ ap (position_from 0 jobs) inv ∙ last)

    s_machine_kept : (r : Round) → SMachineStands u.plan f now r → u.plan.first ≡ v.plan.first → SMachineStands v.plan f now r
    s_machine_kept r s e =
        record {
          start = s.start;
          jobs = s.jobs;
          lengths = s.lengths;
          first = s.first ∙ e;
          place = s.place ∙ counts (now - f) reach;
          running = s.running;
          released = s.released;
          stands = s.stands;
        }

    s_machine_set : (r : Round) (d : ℕ) → SMachineStands u.plan f now r → point_of u.plan.first.time (set u.plan.first.left d n) ≡ v.plan.first → rounds.Stands (with_length r d n) u.plan.schedule
        → SMachineStands v.plan f now (with_length r d n)
    s_machine_set r d s e st =
        record {
          start = s.start;
          jobs = s.jobs;
          lengths = length-set r.lengths d n ∙ s.lengths;
          first = ap (λ (x : Point). point_of x.time (set x.left d n)) s.first ∙ e;
          place = s.place ∙ counts (now - f) reach;
          running = s.running;
          released = s.released;
          stands = st;
        }

    module _ (next : now ≡ suc m) where
      -- who has no work left was released
      done_before : (r : Round) (d : ℕ) (k : Job) → SMachineStands u.plan f now r → slice_get jobs d ≡ Some k → k.present ≡ true → eqb (get_or r.point.left d 0) 0 ≡ true → f + k.release < now
      done_before r d k s at present idle =
          let c = count_left_before (suc m - f) (turn_walk u) in
          let there : SMachineAt u.plan f c (suc m - f) r = subst (λ z. SMachineAt u.plan f (count_left_before (z - f) (turn_walk u)) (z - f) r) next (s_machine_opens u.plan f now r s) in
          let same : job_at jobs d ≡ k = job_is jobs d k at in
          let present' : (job_at r.jobs d).present ≡ true = ap (λ (js : List Job). (job_at js d).present) s.jobs ∙ ap (λ (z : Job). z.present) same ∙ present in
          let late = done_late t es (list_turn t lists es) (are_turns t lists es run) m c (suc m - f) r ((are_listed t lists es run).each m) there (omega arith) d (slice_get_within jobs d k at) present' idle in
          omega (arith, late, ap (λ (z : Job). z.release) same, started)

      s_machine_from : (r : Round) → SMachineStands u.plan f now r → rounds.Stands (s_machine_taking i n r) u.plan.schedule → SMachineStands v.plan f now (s_machine_taking i n r)
      s_machine_from r s st = by_position (position_from 0 r.jobs i) refl st
        where
          by_position : (o : Option ℕ) → position_from 0 r.jobs i ≡ o → rounds.Stands (elim o [ Some q ↦ set_pending (state_of r q) r q n | None ↦ r ]) u.plan.schedule
              → SMachineStands v.plan f now (elim o [ Some q ↦ set_pending (state_of r q) r q n | None ↦ r ])
          by_position None e st =
              s_machine_kept r s
              (first_kept (λ q less present mine.
              let front : job_at jobs q ≡ job_at p.jobs q = job_front known p.jobs q less in
              let present' : (job_at jobs q).present ≡ true = ap (λ (z : Job). z.present) front ∙ present in
              let at = job_there jobs q present' in
              absurd (position_none 0 r.jobs i q (job_at jobs q) e (ap (λ (js : List Job). slice_get js q) s.jobs ∙ at) present' (ap (λ (z : Job). z.inv) front ∙ mine))))
          by_position (Some d) e st =
              let w = position_some 0 r.jobs i d e in
              let at : slice_get jobs d ≡ Some w.2 = sym (ap (λ (js : List Job). slice_get js d) s.jobs) ∙ ap (slice_get r.jobs) (let z : d ≡ w.0 = omega (arith, w.1) in z) ∙ w.3 in
              let last : position_from 0 jobs i ≡ Some d = ap (λ (js : List Job). position_from 0 js i) (sym s.jobs) ∙ e in
              let here' : (job_at r.jobs d).present ≡ true = ap (λ (js : List Job). (job_at js d).present) s.jobs ∙ ap (λ (z : Job). z.present) (job_is jobs d w.2 at) ∙ w.4 in
              let told : get_or r.released d false ≡ (w.2.present && ltb w.2.release (now - f)) =
              ap (λ (bs : List Bool). get_or bs d false) s.released ∙ get_map (λ z. z.present && ltb z.release (now - f)) jobs d w.2 false at in
              by_state d w.2 at last w.4 w.5 told (job_at r.jobs d).present here' (eqb (get_or r.point.left d 0) 0) refl (get_or r.released d false) refl st
            where
              -- where it was released, all of the invocation were
              all_early : (d : ℕ) (k : Job) → slice_get jobs d ≡ Some k → position_from 0 jobs i ≡ Some d → f + k.release < now
                  → (q : ℕ) → q < known → (job_at p.jobs q).present ≡ true → (job_at p.jobs q).inv ≡ i → f + (job_at p.jobs q).release < now
              all_early d k at last early q less present mine = elim (cases_lt (f + (job_at p.jobs q).release) now) [
                | inl before ↦ before
                | inr late ↦
                    let same : q ≡ d = only next d q last less present mine late in
                    omega (arith, early, ap (λ z. (job_at p.jobs z).release) same ∙ ap (λ (z : Job). z.release) (job_of d k at).1)
              ]

              second : (a b : Bool) → (a && b) ≡ true → b ≡ true
              second true b e = e
              second false b e = absurd (let z : ⊥ = cc in z)

              by_state : (d : ℕ) (k : Job) → slice_get jobs d ≡ Some k → position_from 0 jobs i ≡ Some d → k.present ≡ true → k.inv ≡ i → get_or r.released d false ≡ (k.present && ltb k.release (now - f))
                  → (a : Bool) → a ≡ true → (b : Bool) → eqb (get_or r.point.left d 0) 0 ≡ b → (c : Bool) → get_or r.released d false ≡ c
                  → rounds.Stands (set_pending (state_by a b c) r d n) u.plan.schedule → SMachineStands v.plan f now (set_pending (state_by a b c) r d n)
              by_state d k at last present mine told false x b eb c ec st = absurd (let z : ⊥ = cc in z)
              by_state d k at last present mine told true x true eb c ec st = s_machine_kept r s (first_kept (all_early d k at last (done_before r d k s at present eb)))
              by_state d k at last present mine told true x false eb true ec st =
                  let early : (k.present && ltb k.release (now - f)) ≡ true = sym told ∙ ec in
                  s_machine_kept r s (first_kept (all_early d k at last (let z : k.release < now - f = ltb-true k.release (now - f) (second k.present (ltb k.release (now - f)) early) in omega (arith, z))))
              by_state d k at last present mine told true x false eb false ec st =
                  let late : ltb k.release (now - f) ≡ false = sym (ap (λ b. b && ltb k.release (now - f)) present) ∙ sym told ∙ ec in
                  let after : now ≤ f + k.release = (let z : now - f ≤ k.release = ltb-false k.release (now - f) late in omega (arith, z)) in
                  let own = job_of d k at in
                  s_machine_set r d s
                  (first_set d own.0 (ap (λ (z : Job). z.present) own.1 ∙ present) (ap (λ (z : Job). z.inv) own.1 ∙ mine) (omega (arith, after, ap (λ (z : Job). z.release) own.1))
                  (λ q less other present' mine'. elim (cases_lt (f + (job_at p.jobs q).release) now) [ inl before ↦ before | inr z ↦ absurd (other (only next d q last less present' mine' z)) ])) st

      pub took_s_machine : (r : Round) → SMachineStands (list_turn t lists es m).plan (list_turn t lists es m).frame now r → rounds.Stands (s_machine_taking i n r) (list_turn t lists es m).plan.schedule
          → SMachineStands (list_turn t lists (es ++ V.Took i n ∷ []) m).plan (list_turn t lists (es ++ V.Took i n ∷ []) m).frame now (s_machine_taking i n r)
      took_s_machine r s st = subst (λ (w : Turn). SMachineStands w.plan w.frame now (s_machine_taking i n r)) (sym later_is) (s_machine_from r s st)
