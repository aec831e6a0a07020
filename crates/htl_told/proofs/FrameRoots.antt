-- What stands in a frame of a run stands for an invocation of a root module, which has a place of the frame.
use Rattle.std.proofs.Common.{◌≡◌, ℕ, ◌+◌, true, List, [], slice_get, Option, Some, None, refl, sym, ap, ◌∙◌, subst, arith}
use Rattle.htl_runs.proofs.Words.{not_some, eqb-true, Event, Place, Inv, Mode, Module, StandsFor, chosen, KeptApart, rounds, parent_mode, AreInRange, entry, IsEntry, IsSelection, is_root, inv_of_mode, invs_of, Tables, mode_module, running_invs, derived_place, place, standing_places, frame_modes, frame_places, mapped, round_of, run_of, of_places, states_are_selections, chosen_exact_apart}
use Rattle.htl_refine.proofs.Positions.{rootless}

module _ (t : Tables) (es : List Event) (f : ℕ) (range : AreInRange t) (kept : KeptApart t 16) where
  -- an invocation of a root module
  abbrev pub IsOfRoot : ℕ → Type 0
  IsOfRoot k = (x : Inv) × (slice_get t.invs k ≡ Some x) × (parent_mode t x.mode ≡ None)

  -- the invocations of the mode in which a root module runs
  of_root : (ms : List (Option ℕ)) (u j k : ℕ) (m : Module) → IsSelection t ms → slice_get t.modules u ≡ Some m → is_root m ≡ true → slice_get (running_invs t ms u) j ≡ Some k → IsOfRoot k
  of_root ms u j k m selection at root e = by (entry ms u) refl e
    where
      by : (o : Option ℕ) → entry ms u ≡ o → slice_get (elim o as (λ _. List ℕ) [ Some q ↦ invs_of t q | None ↦ [] ]) j ≡ Some k → IsOfRoot k
      by None g h = not_some k h
      by (Some q) g h =
          let own : IsEntry t ms u m.parent (Some q) = subst (IsEntry t ms u m.parent) g (selection.each u m at) in
          let x = of_places (inv_of_mode q) 0 t.invs j k h in
          let known : slice_get t.invs k ≡ Some x.1 = ap (slice_get t.invs) (let z : k ≡ x.0 = omega (arith, x.2) in z) ∙ x.3 in
          let mode : x.1.mode ≡ q = eqb-true x.1.mode q x.4 in
          let unit : mode_module t x.1.mode ≡ u = ap (mode_module t) mode ∙ ap (λ (o : Option Mode). elim o [ Some z ↦ z.«module» | None ↦ 0 ]) own.0.1 ∙ own.0.2 in
          (x.1, known, ap (λ z. elim (slice_get t.modules z) [ Some y ↦ y.parent | None ↦ None ]) unit ∙ ap (λ (o : Option Module). elim o [ Some y ↦ y.parent | None ↦ None ]) at ∙ rootless m root)

  -- for whom it stands
  pub record HasPlace (q inv at : ℕ) : Type 0 where
    pub number : ℕ
    pub is : slice_get (frame_places t (frame_modes t es f)) q ≡ Some (place number at)
    pub of_root_module : IsOfRoot number
    pub stands : StandsFor t (frame_modes t es f at) number inv

  pub has_place : (q inv at : ℕ) → slice_get (standing_places t es f) q ≡ Some (place inv at) → HasPlace q inv at
  has_place q inv at e =
      let modes = frame_modes t es f in
      let x = mapped (derived_place t modes) (frame_places t modes) q (place inv at) e in
      let r = run_of t modes (rounds t) q x.0 x.1 in
      let is : derived_place t modes (place r.4 r.1.at) ≡ place inv at = ap (derived_place t modes) (sym r.6) ∙ x.2 in
      let start : r.1.at ≡ at = ap (λ (z : Place). z.at) is in
      let stood : chosen t (modes r.1.at) r.4 ≡ Some inv = ap (λ (z : Place). z.inv) is in
      let round = round_of t r.0 r.1 r.2 in
      let m = of_places is_root 0 t.modules round.0 r.1.unit round.1 in
      let known : slice_get t.modules r.1.unit ≡ Some m.1 = ap (slice_get t.modules) (let z : r.1.unit ≡ m.0 = omega (arith, m.2) in z) ∙ m.3 in
      let there : slice_get (frame_places t modes) q ≡ Some (place r.4 r.1.at) = x.1 ∙ ap (λ (z : Place). Some z) r.6 in
      record {
        number = r.4;
        is = there ∙ ap (λ z. Some (place r.4 z)) start;
        of_root_module = of_root (modes r.1.at) r.1.unit r.3 r.4 m.1 (states_are_selections t range es (f + r.1.at)) known m.4 r.5;
        stands = (chosen_exact_apart t (modes at) range kept r.4 inv).0 (ap (λ z. chosen t (modes z) r.4) (sym start) ∙ stood);
      }
