-- The S machine as a list of a run begins.
use Rattle.std.proofs.Common.{◌≡◌, ℕ, ◌+◌, ◌-◌, ◌%◌, ◌≤◌, ◌<◌, cond, List, [], ◌∷◌, length, get_or, map, take, refl, sym, ap, ap₂, ◌∙◌, subst, arith}
use Rattle.htl_runs.proofs.Words.{eq-eqb, lt-ltb, length-map, Event, Place, frame_of, starts, known_by, Tables, Job, SInstr, Leg, AreInForm, path_point, HaveLengths, AreWithinWorst, Point, InForm, first_point, Round, round_begun, added, stands_begun, new_jobs, Frame, frame_modes, frame_places, frame_at, no_leg, leg_at, front_of, list_start, lengths_of, modes_at, took, IsFeasibleRun, take-map, take_work, first_jobs, frame_start, SMachineAt, list_begun, Turn, IsListed, list_turn, kept_lengths, leg_knows}
use Rattle.htl_walk.specs.Paths as paths
use Rattle.htl_runs.proofs.{records.SMachineInstants.none_released, lists.NextLists.offset, lists.NextLists.first_next}
use Rattle.htl_runs.proofs.lists.RunLists.{past, serving, stands, there, from_is, are_listed}

kept_by : (takes : List ℕ) (f : ℕ → ℕ → ℕ) (now : ℕ) → ((i u : ℕ) → now ≤ u → get_or takes i 0 ≡ f i u) → (jobs : List Job) → kept_lengths takes jobs ≡ map (λ (j : Job). f j.inv (now + j.release)) jobs
kept_by takes f now h [] = refl
kept_by takes f now h (j ∷ js) = ap₂ (λ (a : ℕ) (ns : List ℕ). a ∷ ns) (h j.inv (now + j.release) (omega arith)) (kept_by takes f now h js)

some_steps : (count end : ℕ) (is : List SInstr) → InForm count end is → 0 < length is
some_steps count end [] f = absurd f
some_steps count end (i ∷ is) f = omega arith

-- the first list begins with the work of the frame
point_first : (jobs : List Job) (ss : List (List SInstr)) (gs : List Leg) (x : Point) → AreInForm ss gs → 0 < length gs → path_point jobs ss gs 0 0 x ≡ paths.list_point (get_or gs 0 no_leg).from x
point_first jobs [] [] x f l = absurd (omega (arith, l))
point_first jobs (s ∷ ss) (g ∷ gs) x f l = refl
point_first jobs _ _ x f l = absurd f

module _ (t : Tables) (lists : List (List SInstr)) (es : List Event) (run : IsFeasibleRun t lists es) (at : ℕ) (here : (list_turn t lists es at).frame + (list_turn t lists es at).from ≡ at) where
  abbrev u : Turn
  u = list_turn t lists es at

  abbrev f : ℕ
  f = frame_start t at

  abbrev p : Frame
  p = frame_at t lists es (frame_start t at)

  abbrev places : List Place
  places = frame_places t (frame_modes t es (frame_start t at))

  known_at : (leg_at (frame_at t lists es (frame_start t at)) (list_turn t lists es at).list).known ≡ known_by (get_or (starts t) (list_turn t lists es at).list 0) (frame_places t (frame_modes t es (frame_start t at)))
  known_at = leg_knows (frame_of t) places (starts t) u.list ((stands t lists es run at).there)

  listed : IsListed (list_turn t lists es at)
  listed = (are_listed t lists es run).each at

  -- the lengths of the list's jobs
  lengths_are : (list_turn t lists es at).plan.lengths ≡ lengths_of t es (frame_start t at) (list_turn t lists es at).plan.jobs
  lengths_are = take-map (λ (j : Job). took t es j.inv (f + j.release)) (leg_at p u.list).known p.jobs

  module _ (zero_is : at % frame_of t ≡ 0) (takes : List ℕ) (takes_are : (i u : ℕ) → at ≤ u → get_or takes i 0 ≡ took t es i u) where
    starts_at : frame_start t at ≡ at
    starts_at = let z = offset t lists es run at in let down = past t lists es run at in omega (arith, z, zero_is, down)

    list_is : (list_turn t lists es at).list ≡ 0
    list_is = (first_next t lists es run at here zero_is 0 0).0 ∙ ap (λ b. cond b 0 1) (eq-eqb (at % frame_of t) 0 zero_is)

    from_zero : (list_turn t lists es at).from ≡ 0
    from_zero = omega (arith, here, starts_at)

    first_is : get_or (starts t) 0 0 ≡ 0
    first_is = ap (λ i. get_or (starts t) i 0) (sym list_is) ∙ sym (from_is t lists es run at) ∙ from_zero

    jobs_are : (list_turn t lists es at).plan.jobs ≡ new_jobs t (modes_at t es at) (at % frame_of t) 0
    jobs_are =
        let some : 0 < length (starts t) = let s = stands t lists es run at in omega (arith, s.there) in
        ap (λ k. take k p.jobs) (known_at ∙ ap (λ i. known_by (get_or (starts t) i 0) places) list_is)
        ∙ first_jobs t (frame_modes t es f) some
        ∙ ap (λ a. new_jobs t (frame_modes t es f a) a 0) first_is
        ∙ ap₂ (λ n a. new_jobs t (modes_at t es n) a 0) (omega (arith, starts_at)) (sym zero_is)

    lengths_kept : kept_lengths takes (new_jobs t (modes_at t es at) (at % frame_of t) 0) ≡ (list_turn t lists es at).plan.lengths
    lengths_kept = grind (arith, kept_by, jobs_are, starts_at, lengths_are)

    first_point_is : (list_turn t lists es at).plan.first ≡ first_point (list_turn t lists es at).plan.jobs (list_turn t lists es at).plan.lengths
    first_point_is =
        let k = (leg_at p u.list).known in
        let make : ℕ → List ℕ → Point = λ time left. record { time = time; left = left } in
        let point : list_start p u.list ≡ paths.list_point (leg_at p 0).from (first_point p.jobs p.lengths) =
        ap (list_start p) list_is ∙ point_first p.jobs p.lists p.legs (first_point p.jobs p.lengths) (serving t lists es run at).forms (let s = there_legs in omega (arith, s)) in
        ap (front_of k) point
        ∙ ap₂ make (ap (λ i. (leg_at p i).from) (sym list_is) ∙ from_zero) (sym (take_work k p.jobs p.lengths))
      where
        there_legs : 0 < length (frame_at t lists es (frame_start t at)).legs
        there_legs = let s = there t lists es run at in omega (arith, s)

    pub first_can : HaveLengths (new_jobs t (modes_at t es at) (at % frame_of t) 0) (kept_lengths takes (new_jobs t (modes_at t es at) (at % frame_of t) 0))
        × AreWithinWorst (new_jobs t (modes_at t es at) (at % frame_of t) 0) (kept_lengths takes (new_jobs t (modes_at t es at) (at % frame_of t) 0))
    first_can = grind (arith, lengths_kept, jobs_are, listed)

    pub first_s_machine : (r : Round) → SMachineAt (list_turn t lists es at).plan (list_turn t lists es at).frame 0 (at - (list_turn t lists es at).frame) (list_begun t (modes_at t es at) takes at r)
    first_s_machine r =
        let js = new_jobs t (modes_at t es at) (at % frame_of t) 0 in
        let own : round_begun u.frame u.plan.jobs u.plan.lengths ≡ list_begun t (modes_at t es at) takes at r =
        ap (λ s. round_begun s u.plan.jobs u.plan.lengths) starts_at ∙ ap₂ (round_begun at) jobs_are (sym lengths_kept)
        ∙ sym (ap (λ b. cond b (round_begun at js (kept_lengths takes js)) (added r at (new_jobs t (modes_at t es at) (at % frame_of t) (length r.jobs)) (kept_lengths takes (new_jobs t (modes_at t es at) (at % frame_of t) (length r.jobs))))) (eq-eqb (at % frame_of t) 0 zero_is)) in
        subst (SMachineAt u.plan u.frame 0 (at - u.frame)) own
        (subst (λ d. SMachineAt u.plan u.frame 0 d (round_begun u.frame u.plan.jobs u.plan.lengths)) (sym (omega (arith, starts_at)))
        (record {
          start = refl;
          jobs = refl;
          lengths = ap (λ (ns : List ℕ). length ns) lengths_are ∙ length-map u.plan.jobs (λ (j : Job). took t es j.inv (f + j.release));
          first = sym first_point_is;
          place = refl;
          running = sym (lt-ltb 0 (length u.plan.schedule) (some_steps (length u.plan.jobs) u.to u.plan.schedule listed.form));
          released = none_released u.plan.jobs;
          stands = stands_begun u.frame u.plan.jobs u.plan.lengths u.plan.schedule listed.least listed.most;
        }))
