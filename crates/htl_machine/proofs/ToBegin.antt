-- What a list that begins is for the machine.
use Rattle.std.proofs.Common.{◌≡◌, ℕ, zero, suc, ◌+◌, ◌-◌, ◌*◌, ◌%◌, ◌≤◌, ◌<◌, cond, eqb, List, length, map, drop, get_or, Option, Some, None, sym, ap, ap₂, ◌∙◌, subst, arith}
use Rattle.htl_machine.proofs.Words.{length-map, Event, Place, frame_limit, frame_of, hyper, starts, state, Tables, limits_kept, Job, SInstr, placed_job, InForm, Round, ECode, ModeReads, phase_path, choice_of, derived_place, frame_modes, frame_places, nodes_below, path_of, AreTookWithin, modes_at, took, IsFeasibleRun, paths_read, states_are_selections, ListAt, IsToBegin, GoesBy, frame_start, IsLoaded, SMachineAt, list_begun, CanStart, IsAtEnd, Turn, AreTurns, next_list, next_node, s_machine_replay, turn_by, turn_at, list_turn, turn_list, next_at, raise_all, all_reads, standing_at}
use Rattle.htl_smach.specs.Rounds as rounds
use Rattle.htl_runs.proofs.{instants.SMachineSteps.with_flags, instants.SMachineSteps.s_machine_told, instants.SMachineSteps.windows, lists.AddedJobs.lists_are_begun, lists.NextLists.lists_begin, lists.NextLists.at_is}
use Rattle.htl_runs.proofs.{lists.LoadedLists.loaded_code, lists.LoadedLists.loaded_listed, lists.LoadedLists.loaded_of, lists.LoadedLists.loaded_run, lists.LoadedLists.loaded_turns, instants.ToldReleases.read_phase_tells}
use Rattle.htl_runs.proofs.lists.RunLists.{few, length-jobs, stands}

-- ---- the list that comes next

-- at a frame's start it is the same, whichever list was before
any_list : (t : Tables) (at x y : ℕ) → at % frame_of t ≡ 0 → next_list t at x ≡ next_list t at y
any_list t at x y e = ap (λ a. cond (eqb a 0) 0 (suc x)) e ∙ sym (ap (λ a. cond (eqb a 0) 0 (suc y)) e)

any_node : (t : Tables) (modes : List (Option ℕ)) (at v w x y : ℕ) → at % frame_of t ≡ 0 → next_node t modes at v x ≡ next_node t modes at w y
any_node t modes at v w x y e =
    let number : ℕ → ℕ → ℕ = λ first list. first + choice_of t modes (at % frame_of t) * suc (nodes_below t (drop (suc list) (starts t))) in
    ap₂ number (ap (λ a. cond (eqb a 0) 0 (suc v)) e ∙ sym (ap (λ a. cond (eqb a 0) 0 (suc w)) e)) (any_list t at x y e)

comes_next : (t : Tables) (lists : List (List SInstr)) (es : List Event) → IsFeasibleRun t lists es → (q at : ℕ) → (list_turn t lists es at).frame + (list_turn t lists es at).from ≡ at → (last : Option ListAt)
    → GoesBy (list_turn t lists es) (Some q) at last → turn_list (list_turn t lists es at) ≡ next_at t (modes_at t es at) at last
comes_next t lists es run q zero here last goes =
    let n = (lists_begin t lists es run 0).1 here in
    let v = list_turn t lists es 0 in
    let first : 0 % frame_of t ≡ 0 = omega arith in
    let make : ℕ → ℕ → ListAt = λ node number. record { node = node; number = number } in
    ap₂ make (n.node ∙ any_node t (modes_at t es 0) 0 v.node 0 v.list 0 first) (n.list ∙ any_list t 0 v.list 0 first) ∙ sym (ap (next_at t (modes_at t es 0) 0) goes)
comes_next t lists es run q (suc n) here last goes =
    let next = (lists_begin t lists es run (suc n)).1 here in
    let make : ℕ → ℕ → ListAt = λ node number. record { node = node; number = number } in
    ap₂ make next.node next.list ∙ sym (ap (next_at t (modes_at t es (suc n)) (suc n)) goes)

-- the frame has few positions so far
few_jobs : (t : Tables) (lists : List (List SInstr)) (es : List Event) → IsFeasibleRun t lists es → frame_limit t ≡ None → (n : ℕ) → length (list_turn t lists es n).plan.jobs ≤ 128
few_jobs t lists es run limit n =
    let modes = frame_modes t es (frame_start t n) in
    let places = frame_places t modes in
    let ys = map (derived_place t modes) places in
    let read = paths_read t modes (λ a. states_are_selections t run.range es (frame_start t n + a)) in
    omega (
      arith,
      length-jobs t lists es run n,
      few t lists es run n,
      length-map ys (placed_job t ys),
      length-map places (derived_place t modes),
      ap (λ (xs : List Place). length xs) read.places,
      (limits_kept t run.range limit).positions (path_of t modes),
    )

module _ (t : Tables) (code : ECode) (schedules : List (List SInstr)) (loaded : IsLoaded t schedules) (reads : (k : ℕ) → k < length t.modes → ModeReads t code k) (es : List Event) (within : AreTookWithin t es) (limit : frame_limit t ≡ None) (q now : ℕ)
    (root : hyper t ≡ Some q) (here : (turn_at t schedules es now).frame + (turn_at t schedules es now).from ≡ now) where
  abbrev u : Turn
  u = turn_at t schedules es now

  run : IsFeasibleRun t schedules es
  run = loaded_run t schedules loaded es within q root

  turns : AreTurns t es (turn_at t schedules es)
  turns = loaded_turns t schedules loaded es within

  is : turn_at t schedules es ≡ list_turn t schedules es
  is = ap (λ o. turn_by o t schedules es) root

  own_here : (list_turn t schedules es now).frame + (list_turn t schedules es now).from ≡ now
  own_here = subst (λ (turn : ℕ → Turn). (turn now).frame + (turn now).from ≡ now) is here

  next : (last : Option ListAt) → GoesBy (turn_at t schedules es) (Some q) now last → turn_list (turn_at t schedules es now) ≡ next_at t (modes_at t es now) now last
  next last goes =
      subst (λ (turn : ℕ → Turn). turn_list (turn now) ≡ next_at t (modes_at t es now) now last) (sym is)
      (comes_next t schedules es run q now own_here last (subst (λ (turn : ℕ → Turn). GoesBy turn (Some q) now last) is goes))

  there : (turn_at t schedules es now).list < length (starts t)
  there = subst (λ (turn : ℕ → Turn). (turn now).list < length (starts t)) (sym is) (stands t schedules es run now).there

  start : get_or (starts t) (turn_at t schedules es now).list 0 ≡ now % frame_of t
  start = subst (λ (turn : ℕ → Turn). get_or (starts t) (turn now).list 0 ≡ now % frame_of t) (sym is) (at_is t schedules es run now own_here)

  positions : length (turn_at t schedules es now).plan.jobs ≤ 128
  positions = subst (λ (turn : ℕ → Turn). length (turn now).plan.jobs ≤ 128) (sym is) (few_jobs t schedules es run limit now)

  module _ (takes : List ℕ) (takes_are : (i v : ℕ) → now ≤ v → get_or takes i 0 ≡ took t es i v) (r : Round) (ends : IsAtEnd t schedules es now r) where
    begun : CanStart t (modes_at t es now) takes now r
        × SMachineAt (turn_at t schedules es now).plan (turn_at t schedules es now).frame 0 (now - (turn_at t schedules es now).frame) (list_begun t (modes_at t es now) takes now r)
    begun =
        subst (λ (turn : ℕ → Turn). CanStart t (modes_at t es now) takes now r × SMachineAt (turn now).plan (turn now).frame 0 (now - (turn now).frame) (list_begun t (modes_at t es now) takes now r)) (sym is)
        (lists_are_begun t schedules es run now takes r own_here takes_are ends)

    -- the releases of the instant
    told : rounds.Stands (s_machine_replay code (phase_path t code es now 3) (list_begun t (modes_at t es now) takes now r)) (turn_at t schedules es now).plan.schedule
        → SMachineAt (turn_at t schedules es now).plan (turn_at t schedules es now).frame 0 (suc now - (turn_at t schedules es now).frame) (s_machine_replay code (phase_path t code es now 3) (list_begun t (modes_at t es now) takes now r))
    told st =
        let first = list_begun t (modes_at t es now) takes now r in
        let flagged : s_machine_replay code (phase_path t code es now 3) first ≡ with_flags first (raise_all u.plan.jobs (all_reads t now (state t es now).stays) first.released) =
        read_phase_tells t es (turn_at t schedules es) turns now 0 (now - u.frame) first ((loaded_listed t schedules loaded es within q root).each now) begun.1 (omega arith) code loaded.range reads in
        subst (SMachineAt u.plan u.frame 0 (suc now - u.frame)) (sym flagged)
        (s_machine_told t (state t es now).stays now u.plan u.frame 0 now first (standing_at t loaded.range es now) (omega arith) (turns.frames.past now) (turns.frames.jobs_so_far now) (windows t loaded.range es (turn_at t schedules es) turns now) begun.1
        (subst (λ z. rounds.Stands z u.plan.schedule) flagged st))

    pub is_to_begin : (last : Option ListAt) → GoesBy (turn_at t schedules es) (Some q) now last → (turn_at t schedules es now).node < length schedules → length schedules ≤ 32768
        → length (turn_at t schedules es now).plan.schedule ≤ 4294967295 → IsToBegin t code schedules es now takes last r
    is_to_begin last goes known many short =
        let nx = next last goes in
        let listed = (loaded_listed t schedules loaded es within q root).each now in
        record {
          follows =
              record {
                some = run.ticks;
                there = subst (λ (l : ListAt). l.number < length (starts t)) nx there;
                start = subst (λ (l : ListAt). get_or (starts t) l.number 0 ≡ now % frame_of t) nx start;
                node = subst (λ (l : ListAt). l.node ≤ 4294967295) nx (omega (arith, known, many));
                can = begun.0;
                few = subst (λ (js : List Job). length js ≤ 128) (sym begun.1.jobs) positions;
              };
          next = nx;
          known = known;
          code_is = loaded_code t schedules loaded es within q root now;
          of = loaded_of t schedules loaded es within q root now;
          form = λ d are. (u.to, subst (λ (js : List Job). InForm (length js) u.to u.plan.schedule) (sym are) listed.form);
          short = short;
          time = ap (λ z. u.frame + z) listed.time ∙ here;
          begins = begun.1;
          told = told;
        }
