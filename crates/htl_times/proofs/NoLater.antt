-- No job is finished later than in the worst-case walk of its path.
use Rattle.std.proofs.Common.{◌≡◌, ℕ, ◌+◌, ◌-◌, ◌≤◌, ◌<◌, true, List, length, get_or, map, slice_get, Option, Some, refl, sym, ap, ◌∙◌, subst, arith}
use Rattle.htl_refine.proofs.ServedFrames.{paths_are}
use Rattle.std.proofs.lemmas.List.{length-map}
use Rattle.htl_times.proofs.Words.{take_all}
use Rattle.htl_times.proofs.Words.{Event, Place, StandsFor, chosen, KeptApart, frame_of, starts, paths, path_places, AreInRange, Tables, Job, SInstr, lists_of, placed_job, job_in, path_jobs, legs_of, legs, RefinesFront, Leg, walk_path, end_to_end, AreChained, IsPathAccepted, Refines, HasWork, Left, first_point, worst_cases, walk_from, job_at, DoneBy, accepted_joined, Ahead, dominance, finish_ahead, same_Some, joined, show_joined, legs_follow, each_at, job_there, job_is, work_some, work_present, derived_place, derived_jobs, place, frame_modes, path_of, frame_places, frame_at, walk_of, lengths_of, IsFeasibleRun, chosen_exact_apart, finish_record, last_is, from_map, get_mapped, placed_present, path_refinement, paths_read, path_work, have_lengths, within_worst, frames_are_served, frame_serves, states_are_selections}
use Rattle.htl_times.specs.{declared.greatest.Greatest.Greatest, Response.worst_walk, Response.worst_finish, Response.IsLatest, Laws.PathFinishesNoLater, Laws.FinishesNoLater, Laws.LatestInWindow}

-- ---- a path

pub path_finishes_no_later : PathFinishesNoLater
path_finishes_no_later js ks ns ss gs h p f j all refined least most chain accepted at here done =
    let x = first_point js ns in
    let y = first_point ks (worst_cases ks) in
    let d = dominance js ks ns (joined ss gs) h all refined least most (accepted_joined ks gs ss h chain accepted) in
    let ahead : Ahead js ks x y = record {
      time = omega arith;
      left = λ q. d.left 0 q;
      release = λ q some.
          let e = work_some js ns q some in
          let r = refined.each q (job_at js q) (job_there js q e) e in
          omega (arith, r.2.release, ap (λ (j : Job). j.release) (job_is ks q r.0 r.1));
    } in
    let mine = show_joined js ss gs 0 h (length ks) x p accepted.forms chain (omega arith) in
    let worst = show_joined ks ss gs 0 h (length ks) y p accepted.forms chain (omega arith) in
    let some : 0 < get_or x.left p 0 = omega (arith, work_present js ns p j at here, least p j at here) in
    let r = finish_ahead js ks (joined ss gs) x y p f ahead some (done.0, sym worst.finish ∙ done.1, done.2) in
    (r.0, mine.finish ∙ r.1, r.2)

-- ---- a frame of a run

module _ (t : Tables) (lists : List (List SInstr)) (es : List Event) (f path : ℕ) (modes : ℕ → List (Option ℕ)) (run : IsFeasibleRun t lists es)
    (accepted : IsPathAccepted (path_jobs t path) (legs t path) (lists_of t lists path)) where
  refines : Refines (derived_jobs t modes (path_places t path)) (path_jobs t path)
  refines =
      let xs = path_places t path in
      let ys = map (derived_place t modes) xs in
      let front : RefinesFront (derived_jobs t modes xs) (path_jobs t path) = subst (λ z. RefinesFront (derived_jobs t modes z) (path_jobs t path)) (take_all xs) (path_refinement t path (length xs) modes run.range run.kept) in
      record { same = omega (arith, length-map ys (placed_job t ys), length-map xs (derived_place t modes), length-map xs (placed_job t xs)); each = front.each }

  done_there : (q g : ℕ) (j : Job) → slice_get (derived_jobs t modes (path_places t path)) q ≡ Some j → j.present ≡ true → DoneBy (worst_walk t lists path) q g
      → DoneBy (end_to_end (walk_path (derived_jobs t modes (path_places t path)) (lengths_of t es f (derived_jobs t modes (path_places t path))) (lists_of t lists path) (legs t path))) q g
  done_there q g j at here done =
      let xs = path_places t path in
      path_finishes_no_later (derived_jobs t modes xs) (path_jobs t path) (lengths_of t es f (derived_jobs t modes xs)) (lists_of t lists path) (legs t path) (frame_of t) q g j (path_work t path run.range) refines
      (have_lengths t modes es f run.range run.within xs) (within_worst t modes es f run.range run.within xs) (legs_follow t path run.modules run.ticks) accepted at here done

  -- by the frame's own places, which are the path's
  pub done_on : (xs : List Place) → xs ≡ path_places t path → (q g : ℕ) (j : Job) → slice_get (derived_jobs t modes xs) q ≡ Some j → j.present ≡ true → DoneBy (worst_walk t lists path) q g
      → DoneBy (end_to_end (walk_path (derived_jobs t modes xs) (lengths_of t es f (derived_jobs t modes xs)) (lists_of t lists path) (legs_of (frame_of t) xs (starts t)))) q g
  done_on xs same q g j at here done =
      subst (λ zs. DoneBy (end_to_end (walk_path (derived_jobs t modes zs) (lengths_of t es f (derived_jobs t modes zs)) (lists_of t lists path) (legs_of (frame_of t) zs (starts t)))) q g) (sym same)
      (done_there q g j (subst (λ zs. slice_get (derived_jobs t modes zs) q ≡ Some j) same at) here done)

-- ---- the path's own job

-- it finishes after its release
later_than_release : (t : Tables) (lists : List (List SInstr)) (path q i at g : ℕ) (run : AreInRange t) → AreChained 0 (frame_of t) (length (path_jobs t path)) (legs t path)
    → IsPathAccepted (path_jobs t path) (legs t path) (lists_of t lists path) → slice_get (path_places t path) q ≡ Some (place i at) → worst_finish t lists path q ≡ Some g
    → (placed_job t (path_places t path) (place i at)).release < g
later_than_release t lists path q i at g range chain accepted placed fin =
    let xs = path_places t path in
    let ks = path_jobs t path in
    let y = first_point ks (worst_cases ks) in
    let ss = lists_of t lists path in
    let k : Job = placed_job t xs (place i at) in
    let here : slice_get ks q ≡ Some k = get_mapped (placed_job t xs) xs q (place i at) placed in
    let works = each_at HasWork ks (path_work t path range) q k here in
    let shown = show_joined ks ss (legs t path) 0 (frame_of t) (length ks) y q accepted.forms chain (omega arith) in
    let r = finish_record (walk_from ks (joined ss (legs t path)) y) q g (sym shown.finish ∙ fin) in
    let last = last_is ks q (joined ss (legs t path)) y r.0 r.1 r.2 r.3 r.4 in
    omega (arith, last.released, r.5, ap (λ (z : Job). z.release) (job_is ks q k here))

-- and so after its round begins
pub later_than_round : (t : Tables) (lists : List (List SInstr)) (path q i at g : ℕ) (run : AreInRange t) → AreChained 0 (frame_of t) (length (path_jobs t path)) (legs t path)
    → IsPathAccepted (path_jobs t path) (legs t path) (lists_of t lists path) → slice_get (path_places t path) q ≡ Some (place i at) → worst_finish t lists path q ≡ Some g → at ≤ g
later_than_round t lists path q i at g range chain accepted placed fin =
    let xs = path_places t path in
    let ks = path_jobs t path in
    let k : Job = placed_job t xs (place i at) in
    let here : slice_get ks q ≡ Some k = get_mapped (placed_job t xs) xs q (place i at) placed in
    let works = each_at HasWork ks (path_work t path range) q k here in
    let c = placed_present t xs at (Some i) k refl works.present in
    omega (arith, ap (λ (z : Job). z.release) c.4, later_than_release t lists path q i at g range chain accepted placed fin)

-- it is done at the latest finish or before
done_worst : (t : Tables) (lists : List (List SInstr)) (es : List Event) (path q i at : ℕ) (l : Greatest) → IsFeasibleRun t lists es → path < paths t
    → IsPathAccepted (path_jobs t path) (legs t path) (lists_of t lists path) → slice_get (path_places t path) q ≡ Some (place i at) → IsLatest t lists i l → DoneBy (worst_walk t lists path) q (at + l.ticks)
done_worst t lists es path q i at l run below accepted placed is =
    let xs = path_places t path in
    let ks = path_jobs t path in
    let k : Job = placed_job t xs (place i at) in
    let here : slice_get ks q ≡ Some k = get_mapped (placed_job t xs) xs q (place i at) placed in
    let works = each_at HasWork ks (path_work t path run.range) q k here in
    let done = (accepted.meets q k here works.present).finishes in
    let least : at ≤ done.0 = later_than_round t lists path q i at done.0 run.range (legs_follow t path run.modules run.ticks) accepted placed done.1 in
    let whole : at + (done.0 - at) ≡ done.0 = omega (arith, least) in
    let late : done.0 - at ≤ l.ticks = is.latest path (done.0 - at) below (record { position = q; at = at; placed = placed; finishes = done.1 ∙ ap (λ n. Some n) (sym whole) }) in
    (done.0, done.1, omega (arith, late, least))

-- what stands there stands for the root invocation
stands_there : (t : Tables) (modes : ℕ → List (Option ℕ)) (xs : List Place) (q i at : ℕ) (j : Job) → AreInRange t → KeptApart t 16 → slice_get xs q ≡ Some (place i at) → slice_get (derived_jobs t modes xs) q ≡ Some j
    → j.present ≡ true → StandsFor t (modes at) i j.inv
stands_there t modes xs q i at j range kept placed there here =
    let ys = map (derived_place t modes) xs in
    let y = from_map (placed_job t ys) ys q j there in
    let is : derived_place t modes (place i at) ≡ y.0 = same_Some _ _ (sym (get_mapped (derived_place t modes) xs q (place i at) placed) ∙ y.1) in
    let c = placed_present t ys y.0.at y.0.inv j y.2 here in
    let inv : c.0 ≡ j.inv = ap (λ (z : Job). z.inv) c.4 in
    let chose : chosen t (modes at) i ≡ Some j.inv = ap (λ (z : Place). z.inv) is ∙ c.2 ∙ ap (λ n. Some n) inv in
    (chosen_exact_apart t (modes at) range kept i j.inv).0 chose

pub finishes_no_later : FinishesNoLater
finishes_no_later t lists es f q i at j l run placed there here is =
    let modes = frame_modes t es f in
    let path = path_of t modes in
    let read = paths_read t modes (λ a. states_are_selections t run.range es (f + a)) in
    let below : path < paths t = omega (arith, read.below, paths_are t run.modules) in
    let accepted = run.accepted path below in
    let on_path : slice_get (path_places t path) q ≡ Some (place i at) = ap (λ xs. slice_get xs q) (sym read.places) ∙ placed in
    let done : DoneBy (walk_of (frame_at t lists es f)) q (at + l.ticks) =
    done_on t lists es f path modes run accepted (frame_places t modes) read.places q (at + l.ticks) j there here (done_worst t lists es path q i at l run below accepted on_path is) in
    let served = (frame_serves (frame_at t lists es f) (frame_of t) (frames_are_served t lists es f run)).each q j there here in
    let r = finish_record (walk_of (frame_at t lists es f)) q done.0 done.1 in
    let first = served.once r.0 done.0 (r.1, r.2, r.3, r.4, r.5) in
    record {
      stands = stands_there t modes (frame_places t modes) q i at j run.range run.kept placed there here;
      done = done;
      none_later = λ k g fin.
          let same : k ≡ r.0 = served.once k g fin ∙ sym first in
          let one : fin.0 ≡ r.1 = same_Some fin.0 r.1 (sym fin.1 ∙ ap (slice_get (walk_of (frame_at t lists es f))) same ∙ r.2) in
          omega (arith, fin.4, r.5, ap (λ (z : Left). z.at) one, done.2);
    }

-- ---- the window

pub latest_in_window : LatestInWindow
latest_in_window t lists es i x l run item is =
    let path = l.path in
    let f = is.reached in
    let xs = path_places t path in
    let ks = path_jobs t path in
    let k : Job = placed_job t xs (place i f.at) in
    let here : slice_get ks f.position ≡ Some k = get_mapped (placed_job t xs) xs f.position (place i f.at) f.placed in
    let works = each_at HasWork ks (path_work t path run.range) f.position k here in
    let accepted = run.accepted path is.within in
    let done = (accepted.meets f.position k here works.present).finishes in
    let g : done.0 ≡ f.at + l.ticks = same_Some _ _ (sym done.1 ∙ f.finishes) in
    let job : k ≡ job_in t xs f.at i (Some x) = ap (λ o. job_in t xs f.at i o) item in
    let released = later_than_release t lists path f.position i f.at (f.at + l.ticks) run.range (legs_follow t path run.modules run.ticks) accepted f.placed f.finishes in
    record {
      released = omega (arith, released, ap (λ (z : Job). z.release) job);
      in_time = omega (arith, done.2, g, ap (λ (z : Job). z.end) job);
    }

-- ---- the worst case is reached

carried : (js ks : List Job) (ns : List ℕ) (ss : List (List SInstr)) (gs hs : List Leg) → js ≡ ks → ns ≡ worst_cases js → gs ≡ hs → end_to_end (walk_path js ns ss gs) ≡ end_to_end (walk_path ks (worst_cases ks) ss hs)
carried js ks ns ss gs hs a b c =
    ap (λ ms. end_to_end (walk_path js ms ss gs)) b ∙ ap (λ zs. end_to_end (walk_path zs (worst_cases zs) ss gs)) a ∙ ap (λ zs. end_to_end (walk_path ks (worst_cases ks) ss zs)) c

pub worst_is_reached_by : (t : Tables) (lists : List (List SInstr)) (es : List Event) (f : ℕ) → IsFeasibleRun t lists es → (frame_at t lists es f).jobs ≡ path_jobs t (path_of t (frame_modes t es f))
    → (frame_at t lists es f).lengths ≡ worst_cases (frame_at t lists es f).jobs → walk_of (frame_at t lists es f) ≡ worst_walk t lists (path_of t (frame_modes t es f))
worst_is_reached_by t lists es f run jobs lengths =
    let modes = frame_modes t es f in
    let path = path_of t modes in
    let read = paths_read t modes (λ a. states_are_selections t run.range es (f + a)) in
    let p = frame_at t lists es f in
    carried p.jobs (path_jobs t path) p.lengths (lists_of t lists path) p.legs (legs t path) jobs lengths (ap (λ xs. legs_of (frame_of t) xs (starts t)) read.places)
