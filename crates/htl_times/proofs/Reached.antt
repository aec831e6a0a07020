-- Without refinement, a run at the worst cases is the path's worst-case walk.
use Rattle.std.proofs.Common.{◌≡◌, ℕ, ◌+◌, true, false, Bool, cond, ◌&&◌, eqb, leb, List, [], ◌∷◌, slice_get, Option, Some, None, refl, sym, ap, ◌∙◌}
use Rattle.std.proofs.{lemmas.Bool.eqb-true, lemmas.List.map-id}
use Rattle.htl_times.proofs.{Words.map_same, NoLater.worst_is_reached_by}
use Rattle.htl_times.proofs.Words.{Event, Place, Inv, chosen, followed, itself, path_places, Tables, task_worst, Job, SInstr, job_in, placed_job, placed_jobs, path_jobs, HasWork, worst_cases, each_at, derived_place, derived_jobs, frame_modes, path_of, frame_places, last_took, inv_worst, took, lengths_of, IsFeasibleRun, chosen_exact_apart, from_map, get_mapped, placed_present, paths_read, path_work, states_are_selections}
use Rattle.htl_model.specs.declared.event.Event.TheVariants as V
use Rattle.htl_times.specs.Laws.{AreConcrete, AreTookWorst, WorstIsReached}

-- ---- how long jobs take

took_worst : (t : Tables) (i u reading x : ℕ) (es : List Event) → AreTookWorst t es → x ≡ inv_worst t i → last_took i u reading x es ≡ inv_worst t i
took_worst t i u reading x [] w e = e
took_worst t i u reading x (V.At n ∷ es) w e = took_worst t i u n x es w.1 e
took_worst t i u reading x (V.Sense c y ∷ es) w e = took_worst t i u reading x es w.1 e
took_worst t i u reading x (V.End n ∷ es) w e = took_worst t i u reading x es w.1 e
took_worst t i u reading x (V.Took j n ∷ es) w e = took_worst t i u reading (cond (eqb i j && leb reading u) n x) es w.1 (by (eqb i j) refl (leb reading u))
  where
    by : (b : Bool) → eqb i j ≡ b → (c : Bool) → cond (b && c) n x ≡ inv_worst t i
    by true is true = w.0 ∙ ap (inv_worst t) (sym (eqb-true i j is))
    by true is false = e
    by false is c = e

-- ---- what stands at the positions

module _ (t : Tables) (path : ℕ) (modes : ℕ → List (Option ℕ)) (es : List Event) (f : ℕ) (lists : List (List SInstr)) (run : IsFeasibleRun t lists es) (concrete : AreConcrete t) (worst : AreTookWorst t es) where
  present_at : (q : ℕ) (x : Place) → slice_get (path_places t path) q ≡ Some x
      → (c : ℕ) × (i : Inv) × (x.inv ≡ Some c) × (slice_get t.invs c ≡ Some i) × (job_in t (path_places t path) x.at c (Some i) ≡ placed_job t (path_places t path) x)
  present_at q x at =
      let xs = path_places t path in
      let works = each_at HasWork (path_jobs t path) (path_work t path run.range) q (placed_job t xs x) (get_mapped (placed_job t xs) xs q x at) in
      placed_present t xs x.at x.inv (placed_job t xs x) refl works.present

  stays : (q : ℕ) (x : Place) → slice_get (path_places t path) q ≡ Some x → derived_place t modes x ≡ x
  stays q x at =
      let c = present_at q x at in
      let own : chosen t (modes x.at) c.0 ≡ Some c.0 = (chosen_exact_apart t (modes x.at) run.range run.kept c.0 c.0).1 (itself c.0 c.1 c.3 (concrete c.0 c.1 c.3)) in
      ap (λ (o : Option ℕ). let y : Place = record { inv = o; at = x.at } in y) (ap (followed (λ k. chosen t (modes x.at) k)) c.2 ∙ own ∙ sym c.2)

  pub own_jobs : derived_jobs t modes (path_places t path) ≡ path_jobs t path
  own_jobs =
      let xs = path_places t path in
      ap (placed_jobs t) (map_same (derived_place t modes) (λ x. x) xs stays ∙ map-id xs)

  pub own_lengths : lengths_of t es f (path_jobs t path) ≡ worst_cases (path_jobs t path)
  own_lengths = map_same (λ (j : Job). took t es j.inv (f + j.release)) (λ (j : Job). j.worst) (path_jobs t path) takes
    where
      takes : (q : ℕ) (j : Job) → slice_get (path_jobs t path) q ≡ Some j → took t es j.inv (f + j.release) ≡ j.worst
      takes q j at =
          let xs = path_places t path in
          let y = from_map (placed_job t xs) xs q j at in
          let c = present_at q y.0 y.1 in
          let job : job_in t xs y.0.at c.0 (Some c.1) ≡ j = c.4 ∙ y.2 in
          let inv : c.0 ≡ j.inv = ap (λ (z : Job). z.inv) job in
          took_worst t j.inv (f + j.release) 0 (inv_worst t j.inv) es worst refl
          ∙ ap (λ (o : Option Inv). elim o [ Some x ↦ task_worst t x.task | None ↦ 0 ]) (ap (slice_get t.invs) (sym inv) ∙ c.3)
          ∙ ap (λ (z : Job). z.worst) job

pub worst_is_reached : WorstIsReached
worst_is_reached t lists es f run concrete worst =
    let modes = frame_modes t es f in
    let path = path_of t modes in
    let read = paths_read t modes (λ a. states_are_selections t run.range es (f + a)) in
    let jobs : derived_jobs t modes (frame_places t modes) ≡ path_jobs t path = ap (derived_jobs t modes) read.places ∙ own_jobs t path modes es f lists run concrete worst in
    worst_is_reached_by t lists es f run jobs (ap (lengths_of t es f) jobs ∙ own_lengths t path modes es f lists run concrete worst ∙ ap worst_cases (sym jobs))
