-- The modules of the cone stay in the patched program: with each those above it, and none stands under the patched mode.
use Rattle.std.proofs.Common.{◌≡◌, ◌<◌, ℕ, zero, suc, Bool, true, false, not, ◌||◌, eqb, eq-eqb, List, map, slice_get, Option, Some, None, IfSome, refl, sym, ◌∙◌, ◌+◌, ap, subst, arith}
use Rattle.htl_exchange.proofs.{Words.Module, Cones.Cone, Cones.IsUntouched}
use Rattle.htl_model.proofs.{Stays.module_is, TestLaws.and_true}
use Rattle.htl_patch.proofs.Words.{same_Some, get_front, ne_eqb, IsModeThat, is_within, is_root, parent_of, numbered, root_modules, modes_of, mode_of_module, Tables, mode_module, Replacement, combined, donor_mode, donor_module, order, below, children, mode_children, is_under, refines, is_donors}
use Rattle.htl_model.specs.Selected.{is_at}
use Rattle.htl_patch.proofs.{Members.Has, Members.none, Members.in_flat, Members.of_flat, Members.in_places_0, Replacing.CanReplace, Transfers.in_numbered}

-- ---- levels

-- what stands at most n levels below stands at most one more
more : (children : ℕ → List ℕ) (n y x : ℕ) → Has (below children n y) x → Has (below children (suc n) y) x
more children zero y x (zero, e) = (0, e)
more children zero y x (suc j, e) = absurd (none x j e)
more children (suc n) y x (zero, e) = (0, e)
more children (suc n) y x (suc j, e) =
    let r = of_flat (below children n) (children y) x (j, e) in
    let i = in_flat (below children (suc n)) (children y) r.0 x r.1 (more children n r.0 x r.2) in (suc i.0, i.1)

-- a module stands a level below the one above it
one_down : (children : ℕ → List ℕ) (n y z x : ℕ) → Has (below children n y) z → Has (children z) x → Has (below children (suc n) y) x
one_down children zero y z x (zero, e) h =
    let i = in_flat (below children 0) (children y) x x (subst (λ w. Has (children w) x) (sym (same_Some y z e)) h) (0, refl) in (suc i.0, i.1)
one_down children zero y z x (suc j, e) h = absurd (none z j e)
one_down children (suc n) y z x (zero, e) h =
    let i = in_flat (below children (suc n)) (children y) x x (subst (λ w. Has (children w) x) (sym (same_Some y z e)) h) (0, refl) in (suc i.0, i.1)
one_down children (suc n) y z x (suc j, e) h =
    let r = of_flat (below children n) (children y) z (j, e) in
    let i = in_flat (below children (suc n)) (children y) r.0 x r.1 (one_down children n r.0 z x r.2 h) in (suc i.0, i.1)

module _ (g : Replacement) (c : CanReplace g) (s : Cone) (a : IsUntouched g s) where
  abbrev t : Tables
  t = g.host

  abbrev u : Tables
  u = combined g

  -- a module of the cone that refines a mode is under it in the patched program
  child_of : (x p : ℕ) (m : Module) → slice_get t.modules x ≡ Some m → m.parent ≡ Some p → (m.parent ≡ Some g.patched_mode → ⊥) → Has (children g (mode_module t p)) x
  child_of x p m at up kept =
      let r : IsModeThat t (λ owner. owner < x) p = subst (λ (o : Option ℕ). IfSome o (IsModeThat t (λ owner. owner < x))) up (c.host.modules x m at).parent in
      let own : eqb r.0.«module» (mode_module t p) ≡ true = eq-eqb r.0.«module» (mode_module t p) (sym (module_is t p r.0 r.1)) in
      let refining : refines p m ≡ true = ap (λ (o : Option ℕ). is_at o p) up ∙ eq-eqb p p refl in
      let other : eqb p g.patched_mode ≡ false = ne_eqb p g.patched_mode (λ same. kept (up ∙ ap (λ (q : ℕ). Some q) same)) in
      let under : is_under g p (x, m) ≡ true = and_true (refines p m) (not (eqb p g.patched_mode) || is_donors g x) refining ∙ ap (λ b. not b || is_donors g x) other in
      in_flat (mode_children g) (modes_of u (mode_module t p)) p x
      (in_places_0 (mode_of_module (mode_module t p)) u.modes p r.0 (get_front t.modes (map (donor_mode g) g.donor.modes) p r.0 r.1) own)
      (in_places_0 (is_under g p) (numbered 0 u.modules) x (x, m) (in_numbered_0 x m (get_front t.modules (map (donor_module g) g.donor.modules) x m at)) under)
    where
      in_numbered_0 : (x : ℕ) (m : Module) → slice_get u.modules x ≡ Some m → slice_get (numbered 0 u.modules) x ≡ Some (x, m)
      in_numbered_0 x m e = let same : 0 + x ≡ x = omega arith in in_numbered 0 u.modules x m e ∙ ap (λ (k : ℕ). Some (k, m)) same

  -- a module of the cone stands below a root module, as deep as in the host
  record StandsBelow (d x : ℕ) : Type 0 where
    top : ℕ
    root : Has (root_modules t) top
    below : Has (below (children g) d top) x

  at_top : (d x : ℕ) (m : Module) → slice_get t.modules x ≡ Some m → m.parent ≡ None → StandsBelow d x
  at_top d x m at e = record { top = x; root = in_places_0 is_root t.modules x m at (ap (λ (o : Option ℕ). elim o as (λ _. Bool) [ Some p ↦ false | None ↦ true ]) e); below = itself d }
    where
      itself : (d : ℕ) → Has (below (children g) d x) x
      itself zero = (0, refl)
      itself (suc d) = (0, refl)

  stands_below : (d x : ℕ) (m : Module) → s.modules x → slice_get t.modules x ≡ Some m → is_within d t m.parent ≡ true → StandsBelow d x
  stands_below zero x m inside at deep = by m.parent refl deep
    where
      by : (o : Option ℕ) → m.parent ≡ o → is_within 0 t o ≡ true → StandsBelow 0 x
      by None e f = at_top 0 x m at e
      by (Some p) e f = absurd (let z : ⊥ = cc in z)
  stands_below (suc d) x m inside at deep = by m.parent refl deep (λ y q i e f. stands_below d y q i e f)
    where
      by : (o : Option ℕ) → m.parent ≡ o → is_within (suc d) t o ≡ true → ((y : ℕ) (q : Module) → s.modules y → slice_get t.modules y ≡ Some q → is_within d t q.parent ≡ true → StandsBelow d y) → StandsBelow (suc d) x
      by None e f later = at_top (suc d) x m at e
      by (Some p) e f later =
          let r = a.modules x inside in
          let same : r.0 ≡ m = same_Some r.0 m (sym r.1 ∙ at) in
          let y = mode_module t p in
          let up = r.2.above p (ap (λ (q : Module). q.parent) same ∙ e) in
          let q = a.modules y up in
          let parent : parent_of t y ≡ q.0.parent = ap (λ (o : Option Module). elim o as (λ _. Option ℕ) [ Some z ↦ z.parent | None ↦ None ]) q.1 in
          let b = later y q.0 up q.1 (ap (is_within d t) (sym parent) ∙ f) in
          record { top = b.top; root = b.root; below = one_down (children g) d b.top y x b.below (child_of x p m at e (λ i. r.2.kept (ap (λ (q : Module). q.parent) same ∙ i))) }

  pub module_stays : (x : ℕ) → s.modules x → Has (order g) x
  module_stays x inside =
      let m = a.modules x inside in
      let b = stands_below 7 x m.0 inside m.1 (c.host.modules x m.0 m.1).levels in
      let deeper = more (children g) in
      let y = b.top in
      in_flat (below (children g) 14) (root_modules t) y x b.root
      (deeper 13 y x (deeper 12 y x (deeper 11 y x (deeper 10 y x (deeper 9 y x (deeper 8 y x (deeper 7 y x b.below)))))))
