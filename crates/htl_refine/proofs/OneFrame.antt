-- Where all root modules have one period, a frame is a round.
use Rattle.std.proofs.Common.{◌≡◌, ℕ, zero, suc, ◌+◌, ◌-◌, ◌*◌, ◌/◌, ◌%◌, ◌≤◌, ◌<◌, Bool, true, false, cond, eqb, List, [], ◌∷◌, length, map, get_or, Some, refl, sym, ap, ◌∙◌, arith, append-nil}
use Rattle.htl_refine.proofs.Words.{flat_map, filter, eqb-true, eqb-false, eq-eqb, ne_eqb, lt-ltb, div-add-mod, mul-div-le, Event, Module, joined, list_to, places_from, AreInRange, is_root, root_modules, selection_count, root_period, Tables, Job, SInstr, concrete_jobs, lengths_of, modes_at, rounds_before, round_at, left_at, selection_of, hyper, frame_of, starts, rounds_at, rounds, node, known_by, Leg, legs_of, HasOnePeriod, derived_jobs, one_period, OneFrameRecords, RunningList, lists_from, lists_at, left_in, begun_before, begins_at, in_frame, old_records_by, new_records_by, frame_modes, path_in, path_of, running_places, frame_places, frame_jobs, Frame, frame_at, walks_of, up_to_same, times_grow}
use Rattle.htl_refine.specs.Records as by_rounds
use Rattle.htl_refine.proofs.{RootSelection.below_count, StateLaws.states_are_selections, FirstRound.first_round, FirstRound.rounds_first, FirstRound.path_is, FirstRound.places_are, FirstRound.concrete_are}

-- ---- a frame

modules_there : (ms : List Module) → 0 < length (places_from is_root 0 ms) → 0 < length ms
modules_there [] h = absurd (omega arith)
modules_there (m ∷ ms) h = omega arith

module _ (t : Tables) (period : ℕ) (lists : List (List SInstr)) (es : List Event) (range : AreInRange t) (one : HasOnePeriod t period) where
  rounds_are : rounds t ≡ map first_round (root_modules t)
  rounds_are = ap (flat_map (rounds_at t)) (one_period t period one).one_start ∙ append-nil (rounds_at t 0) ∙ rounds_first t (root_modules t)

  module _ (f : ℕ) where
    here : f + 0 ≡ f
    here = omega arith

    path_same : path_of t (frame_modes t es f) ≡ selection_of t (modes_at t es f)
    path_same = grind (arith, f, rounds_are, path_is, here)

    few : selection_of t (modes_at t es f) < selection_count t
    few = below_count t (modes_at t es f) range (states_are_selections t range es f) (modules_there t.modules one.some)

    jobs_same : frame_jobs t (frame_modes t es f) ≡ concrete_jobs t (modes_at t es f)
    jobs_same = grind (arith, f, rounds_are, places_are, concrete_are, here)

    node_same : node t (path_of t (frame_modes t es f)) 0 ≡ selection_of t (modes_at t es f)
    node_same = ap (λ p. node t p 0) path_same ∙ (one_period t period one).node (selection_of t (modes_at t es f)) few

    lists_same : list_to (λ j. get_or lists (node t (path_of t (frame_modes t es f)) j) []) (length (starts t)) ≡ get_or lists (selection_of t (modes_at t es f)) [] ∷ []
    lists_same =
        ap (λ (xs : List ℕ). list_to (λ j. get_or lists (node t (path_of t (frame_modes t es f)) j) []) (length xs)) (one_period t period one).one_start
        ∙ ap (λ n. get_or lists n [] ∷ []) node_same

    legs_same : legs_of (frame_of t) (frame_places t (frame_modes t es f)) (starts t) ≡ record { from = 0; to = frame_of t; known = known_by 0 (frame_places t (frame_modes t es f)) } ∷ []
    legs_same = ap (legs_of (frame_of t) (frame_places t (frame_modes t es f))) (one_period t period one).one_start

    frame_same : frame_at t lists es f
        ≡ record {
          jobs = (round_at t lists es f).jobs;
          lengths = (round_at t lists es f).lengths;
          lists = (round_at t lists es f).schedule ∷ [];
          legs = record { from = 0; to = frame_of t; known = known_by 0 (frame_places t (frame_modes t es f)) } ∷ [];
        }
    frame_same =
        let make : List Job → List (List SInstr) → List Leg → Frame = λ js ss gs. record { jobs = js; lengths = lengths_of t es f js; lists = ss; legs = gs } in
        let ss = list_to (λ j. get_or lists (node t (path_of t (frame_modes t es f)) j) []) (length (starts t)) in
        let gs = legs_of (frame_of t) (frame_places t (frame_modes t es f)) (starts t) in
        ap (λ js. make js ss gs) jobs_same
        ∙ ap (λ zs. make (concrete_jobs t (modes_at t es f)) zs gs) lists_same
        ∙ ap (λ hs. make (concrete_jobs t (modes_at t es f)) (get_or lists (selection_of t (modes_at t es f)) [] ∷ []) hs) legs_same

    pub lists_running : lists_at t lists es f ≡ record { from = f + 0; node = node t (path_of t (frame_modes t es f)) 0; code = (round_at t lists es f).schedule; walk = by_rounds.round_walk (round_at t lists es f) } ∷ []
    lists_running = ap (λ (p : Frame). lists_from (node t (path_of t (frame_modes t es f))) f 0 p.lists p.legs (walks_of p)) frame_same

    -- the records of the one list
    pub in_one : (which : RunningList → Bool) (now : ℕ) (b : Bool)
        → which (record { from = f + 0; node = node t (path_of t (frame_modes t es f)) 0; code = (round_at t lists es f).schedule; walk = by_rounds.round_walk (round_at t lists es f) }) ≡ b
        → in_frame t lists es which now f ≡ cond b (left_at t lists es f now) []
    in_one which now b e = grind (arith, f, lists_running, append-nil)

-- ---- the records

begun_below : (h now k : ℕ) → 0 < h → k < rounds_before h now → k * h + 0 < now
begun_below h now k some less = grind (arith, mul-div-le, times_grow)

pub one_frame_records : OneFrameRecords
one_frame_records t period lists es now range one root = (old, new)
  where
    h_is : hyper t ≡ Some period
    h_is = (one_period t period one).frame

    old : old_records_by t lists es now (hyper t) ≡ by_rounds.old_round_records_by t lists es now (root_period t)
    old =
        ap (old_records_by t lists es now) h_is
        ∙ up_to_same (λ k. in_frame t lists es (begun_before now) now (k * period)) (λ k. left_at t lists es (k * period) now) (rounds_before period now)
        (λ k less. in_one t period lists es range one (k * period) (begun_before now) now true (lt-ltb (k * period + 0) now (begun_below period now k one.positive less)))
        ∙ sym (ap (by_rounds.old_round_records_by t lists es now) root)

    new : new_records_by t lists es now (hyper t) ≡ by_rounds.new_round_records_by t lists es now (root_period t)
    new =
        ap (new_records_by t lists es now) h_is
        ∙ by (eqb (now % period) 0) refl
        ∙ sym (ap (by_rounds.new_round_records_by t lists es now) root)
      where
        f : ℕ
        f = period * (now / period)

        whole : period * (now / period) + now % period ≡ now
        whole = div-add-mod now period

        by : (b : Bool) → eqb (now % period) 0 ≡ b → in_frame t lists es (begins_at now) now (period * (now / period)) ≡ cond b (left_at t lists es now now) []
        by true e =
            let same : period * (now / period) ≡ now = omega (arith, whole, eqb-true (now % period) 0 e) in
            in_one t period lists es range one (period * (now / period)) (begins_at now) now true (eq-eqb (period * (now / period) + 0) now (omega (arith, same)))
            ∙ ap (λ a. left_at t lists es a now) same
        by false e =
            let d = eqb-false (now % period) 0 e in
            in_one t period lists es range one (period * (now / period)) (begins_at now) now false (ne_eqb (period * (now / period) + 0) now (λ z. d (omega (arith, whole, z))))
