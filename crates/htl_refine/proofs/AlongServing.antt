-- What stands at the positions that have begun refines the paths with these modes, and their lists serve it.
use Rattle.std.proofs.Common.{◌≡◌, ℕ, ◌≤◌, ◌<◌, List, length, take, Option, refl, sym, ◌∙◌, ap, subst}
use Rattle.htl_refine.proofs.Words.{length-map, paths, starts, path_places, KeptApart, AreInRange, Tables, frame_some, Job, SInstr, placed_job, path_jobs, legs, IsPathAccepted, AreWithin, HaveLengths, AreWithinWorst, some_root, legs_follow, derived_jobs, begun_places, begun_jobs, start_modes, IsAlong}
use Rattle.htl_walk.specs.PathLaws.{RefinesFront, IsInherited}
use Rattle.htl_refine.proofs.{AlongPath.jobs_along, AlongPath.legs_reached, PathDerived.path_refinement, PathServing.path_serves}

module _ (t : Tables) (path : ℕ) (sels : List (List (Option ℕ))) (out : List Job) (range : AreInRange t) (kept : KeptApart t 16) (few : length sels ≤ length (starts t)) (along : IsAlong t path sels) (is : out ≡ begun_jobs t sels) where
  abbrev derived : List Job
  derived = derived_jobs t (start_modes sels (starts t)) (take (length (begun_jobs t sels)) (path_places t path))

  whole : out ≡ derived
  whole = is ∙ jobs_along t path sels few along (length (begun_jobs t sels)) refl

  pub refines_along : RefinesFront out (path_jobs t path)
  refines_along = subst (λ js. RefinesFront js (path_jobs t path)) (sym whole) (path_refinement t path (length (begun_jobs t sels)) (start_modes sels (starts t)) range kept)

  pub serves_along : path < paths t → (k : ℕ) → k ≡ length sels → (lengths : List ℕ) (ss : List (List SInstr)) → HaveLengths out lengths → AreWithinWorst out lengths → IsPathAccepted (path_jobs t path) (legs t path) ss
      → IsInherited out (path_jobs t path) lengths ss (legs t path) k
  serves_along inside k e lengths ss least most accepted =
      let root = some_root t path inside in
      let many : length derived ≡ length (begun_places t sels (starts t)) = ap (λ (js : List Job). length js) (sym whole ∙ is) ∙ length-map (begun_places t sels (starts t)) (placed_job t (begun_places t sels (starts t))) in
      let within : AreWithin (length derived) (take k (legs t path)) = subst (λ n. AreWithin (length derived) (take n (legs t path))) (sym e) (legs_reached t path sels few along (length derived) many) in
      subst (λ js. IsInherited js (path_jobs t path) lengths ss (legs t path) k) (sym whole)
      (path_serves t path (length (begun_jobs t sels)) k (start_modes sels (starts t)) lengths ss range kept (subst (λ js. HaveLengths js lengths) whole least) (subst (λ js. AreWithinWorst js lengths) whole most)
      (legs_follow t path root (frame_some t range root)) within accepted)
