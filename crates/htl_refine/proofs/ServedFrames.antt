-- Lists that are accepted for all paths serve every frame of every run.
use Rattle.std.proofs.Common.{◌≡◌, ℕ, ◌+◌, ◌*◌, ◌<◌, List, [], ◌∷◌, length, Option, refl, sym, subst, arith}
use Rattle.htl_refine.proofs.Words.{Event, Place, KeptApart, frame_of, starts, rounds, choices, paths, path_places, AreInRange, root_modules, Tables, SInstr, lists_of, path_jobs, legs_of, legs, AreChained, IsPathAccepted, Refines, path_dominance, legs_follow, derived_jobs, frame_modes, path_of, frame_places, Frame, frame_at, lengths_of, AreTookWithin, IsServing, FramesAreServed, EveryJobInTime}
use Rattle.htl_refine.proofs.{PathDerived.path_roots, PathDerived.all_refined, PathRead.paths_read, PathServing.path_work, RoundLaws.have_lengths, RoundLaws.within_worst, ServedJobs.frames_serve, StateLaws.states_are_selections}

-- ---- frames

pub paths_are : (t : Tables) → 0 < length (root_modules t) → paths t ≡ choices t (rounds t)
paths_are t some = grind arith

module _ (t : Tables) (lists : List (List SInstr)) (es : List Event) (f path : ℕ) (modes : ℕ → List (Option ℕ)) (range : AreInRange t) (kept : KeptApart t 16) (within : AreTookWithin t es)
    (some : 0 < length (root_modules t)) (long : 0 < frame_of t) (accepted : IsPathAccepted (path_jobs t path) (legs t path) (lists_of t lists path)) where
  frame_on : List Place → Frame
  frame_on xs = record { jobs = derived_jobs t modes xs; lengths = lengths_of t es f (derived_jobs t modes xs); lists = lists_of t lists path; legs = legs_of (frame_of t) xs (starts t) }

  refines : Refines (derived_jobs t modes (path_places t path)) (path_jobs t path)
  refines = all_refined t (path_places t path) range kept (path_roots t path range kept) modes

  served_there : IsServing (frame_on (path_places t path)) (frame_of t)
  unfolding frame_on
  served_there =
      let xs = path_places t path in
      let chain : AreChained 0 (frame_of t) (length (path_jobs t path)) (legs t path) = legs_follow t path some long in
      let d = path_dominance (derived_jobs t modes xs) (path_jobs t path) (lengths_of t es f (derived_jobs t modes xs)) (lists_of t lists path) (legs t path) (frame_of t) (path_work t path range) refines
      (have_lengths t modes es f range within xs) (within_worst t modes es f range within xs) chain accepted in
      record {
        forms = accepted.forms;
        chain = subst (λ n. AreChained 0 (frame_of t) n (legs t path)) (sym refines.same) chain;
        meets = d.meets;
      }

  pub served_on : (xs : List Place) → xs ≡ path_places t path
      → IsServing (record { jobs = derived_jobs t modes xs; lengths = lengths_of t es f (derived_jobs t modes xs); lists = lists_of t lists path; legs = legs_of (frame_of t) xs (starts t) }) (frame_of t)
  unfolding frame_on
  served_on xs same = subst (λ zs. IsServing (frame_on zs) (frame_of t)) (sym same) served_there

pub frames_are_served : FramesAreServed
frames_are_served t lists es f run =
    let modes = frame_modes t es f in
    let path = path_of t modes in
    let read = paths_read t modes (λ a. states_are_selections t run.range es (f + a)) in
    served_on t lists es f path modes run.range run.kept run.within run.modules run.ticks (run.accepted path (omega (arith, read.below, paths_are t run.modules))) (frame_places t modes) read.places

pub every_job_in_time : EveryJobInTime
every_job_in_time t lists es end run = frames_serve (frame_at t lists es) (frame_of t) end (λ k. frames_are_served t lists es (k * frame_of t) run)
