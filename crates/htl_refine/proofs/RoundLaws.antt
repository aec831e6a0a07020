-- The lengths of a round are within the worst cases, and its schedule meets.
use Rattle.std.proofs.Common.{◌≡◌, ◌≤◌, ◌<◌, ℕ, ◌+◌, Bool, true, false, ◌&&◌, cond, eqb, leb, List, [], ◌∷◌, length, get_or, map, Option, Some, None, refl, sym, ◌∙◌, ap, subst, arith}
use Rattle.htl_refine.proofs.Words.{slice_get, flat_map, get_or_from_slice_get, none-some, Event, Inv, Module, Task, chosen, places_from, KeptTo, AreInRange, IsInvInRange, IsTaskInRange, is_root, selection_count, Tables, task_worst, Job, SInstr, abstract_jobs, jobs_standing, placed_job, HaveLengths, AreWithinWorst, ScheduleIsAccepted, Meets, places_of, Place, running_invs, running_positions, concrete_jobs, derived_place, derived_jobs, last_took, inv_worst, took, lengths_of, AreTookWithin, modes_at, round_at, selection_of, all_at, from_map, get_mapped, eqb-true}
use Rattle.htl_model.specs.declared.event.Event.TheVariants as V
use Rattle.htl_refine.proofs.{FirstRound.concrete_are, Inherit.inheritance, PathDerived.placed_present, RootSelection.below_count, RootSelection.is_of_selection, StateLaws.states_are_selections}

pub took_within : (t : Tables) (i u r x : ℕ) (es : List Event) → AreTookWithin t es → 1 ≤ x → x ≤ inv_worst t i → (1 ≤ last_took i u r x es) × (last_took i u r x es ≤ inv_worst t i)
took_within t i u r x [] h a b = (a, b)
took_within t i u r x (V.At n ∷ es) h a b = took_within t i u n x es h.1 a b
took_within t i u r x (V.Sense d y ∷ es) h a b = took_within t i u r x es h.1 a b
took_within t i u r x (V.End n ∷ es) h a b = took_within t i u r x es h.1 a b
took_within t i u r x (V.Took j n ∷ es) h a b = by (eqb i j) (leb r u) refl (λ y c d. took_within t i u r y es h.1 c d)
  where
    by : (p q : Bool) → eqb i j ≡ p → ((y : ℕ) → 1 ≤ y → y ≤ inv_worst t i → (1 ≤ last_took i u r y es) × (last_took i u r y es ≤ inv_worst t i))
        → (1 ≤ last_took i u r (cond (p && q) n x) es) × (last_took i u r (cond (p && q) n x) es ≤ inv_worst t i)
    by true true e later = let same : inv_worst t j ≡ inv_worst t i = ap (inv_worst t) (sym (eqb-true i j e)) in later n h.0.0 (omega (arith, same, h.0.1))
    by true false e later = later x a b
    by false q e later = later x a b

-- an invocation takes at least one tick in its worst case
pub worst_some : (t : Tables) (k : ℕ) (i : Inv) → AreInRange t → slice_get t.invs k ≡ Some i → (1 ≤ inv_worst t k) × (inv_worst t k ≡ task_worst t i.task)
worst_some t k i range at =
    let inv = (all_at (IsInvInRange t) t.invs k i range.invs at).task in
    let a : inv_worst t k ≡ task_worst t i.task = ap (λ (o : Option Inv). elim o [ Some x ↦ task_worst t x.task | None ↦ 0 ]) at in
    let b : task_worst t i.task ≡ inv.0.worst = ap (λ (o : Option Task). elim o [ Some x ↦ x.worst | None ↦ 0 ]) inv.1 in
    (omega (arith, a, b, ((all_at (IsTaskInRange t) t.tasks i.task inv.0 range.tasks inv.1).worst).some), a)

-- what stands at places takes from one tick to its worst case
module _ (t : Tables) (modes : ℕ → List (Option ℕ)) (es : List Event) (f : ℕ) (range : AreInRange t) (within : AreTookWithin t es) (xs : List Place) where
  length_is : (p : ℕ) (j : Job) → slice_get (derived_jobs t modes xs) p ≡ Some j → j.present ≡ true
      → (1 ≤ get_or (lengths_of t es f (derived_jobs t modes xs)) p 0) × (get_or (lengths_of t es f (derived_jobs t modes xs)) p 0 ≤ j.worst)
  length_is p j at here =
      let ys = map (derived_place t modes) xs in
      let js = derived_jobs t modes xs in
      let y = from_map (placed_job t ys) ys p j at in
      let c = placed_present t ys y.0.at y.0.inv j y.2 here in
      let w = worst_some t j.inv c.1 range (ap (slice_get t.invs) (sym (ap (λ (z : Job). z.inv) c.4)) ∙ c.3) in
      let r = took_within t j.inv (f + j.release) 0 (inv_worst t j.inv) es within w.0 (omega arith) in
      let g = λ (z : Job). took t es z.inv (f + z.release) in
      let is : get_or (lengths_of t es f js) p 0 ≡ g j = get_or_from_slice_get (map g js) p (g j) 0 (get_mapped g js p j at) in
      (omega (arith, is, r.0), omega (arith, is, r.1, w.1, sym (ap (λ (z : Job). z.worst) c.4)))

  pub have_lengths : HaveLengths (derived_jobs t modes xs) (lengths_of t es f (derived_jobs t modes xs))
  have_lengths p j at here = (length_is p j at here).0

  pub within_worst : AreWithinWorst (derived_jobs t modes xs) (lengths_of t es f (derived_jobs t modes xs))
  within_worst p j at here = (length_is p j at here).1

-- without modules nothing runs
no_jobs : (t : Tables) (modes : List (Option ℕ)) → t.modules ≡ [] → concrete_jobs t modes ≡ []
no_jobs t modes none = grind arith

none_meet : (jobs : List Job) (ns : List ℕ) (s : List SInstr) → jobs ≡ [] → Meets jobs ns s
none_meet jobs ns s none p j at here = absurd (none-some j (sym (ap (λ js. slice_get js p) none) ∙ at))

pub rounds_meet : (t : Tables) (schedules : List (List SInstr)) (es : List Event) (start period : ℕ) → AreInRange t → KeptTo t 16 → AreTookWithin t es
    → ((sel : ℕ) → sel < selection_count t → ScheduleIsAccepted (abstract_jobs t sel) period (get_or schedules sel []))
    → let r = round_at t schedules es start in Meets r.jobs r.lengths r.schedule
rounds_meet t schedules es start period range kept within accepted = by t.modules refl
  where
    by : (us : List Module) → t.modules ≡ us → let r = round_at t schedules es start in Meets r.jobs r.lengths r.schedule
    by [] e = grind (arith, none_meet, no_jobs)
    by (u ∷ us) e =
        let modes = modes_at t es start in
        let selection = states_are_selections t range es start in
        let sel = selection_of t modes in
        let some : 0 < length t.modules = omega (arith, ap length e) in
        let xs = places_of 0 (running_positions t modes) in
        let made : derived_jobs t (λ x. modes) xs ≡ concrete_jobs t modes = concrete_are t (λ x. modes) in
        (inheritance t sel modes (lengths_of t es start (concrete_jobs t modes)) (get_or schedules sel []) period
        (record { range = range; kept = kept; selection = selection; roots = is_of_selection t modes selection })
        (subst (λ js. HaveLengths js (lengths_of t es start js)) made (have_lengths t (λ x. modes) es start range within xs))
        (subst (λ js. AreWithinWorst js (lengths_of t es start js)) made (within_worst t (λ x. modes) es start range within xs)) (accepted sel (below_count t modes range selection some))).meets
