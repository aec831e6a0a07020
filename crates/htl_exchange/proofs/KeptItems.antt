-- What the cone has of the host, with its new numbers.
use Rattle.std.proofs.Common.{◌≡◌, ◌<◌, ◌+◌, ℕ, eqb, eq-eqb, List, [], ◌++◌, length, map, slice_get, Option, Some, None, IfSome, refl, sym, ◌∙◌, ap, subst, arith, append-nil}
use Rattle.htl_exchange.proofs.{Words.Inv, Words.Mode, Words.Module, Words.Switch, Cones.Cone, Cones.IsUntouched, KeptModules.module_stays, Matches.IsModeIn, Matches.SameModule}
use Rattle.htl_model.proofs.Stays.{module_is}
use Rattle.htl_model.specs.Lines.{mode_name, module_name}
use Rattle.htl_base.proofs.Places.{item_at, from_map, get_mapped}
use Rattle.htl_patch.proofs.Words.{slice_get_within, get_or_from_slice_get, get_front, AreApart, IsModeThat, modes_of, mode_of_module, invs_of, inv_of_mode, Tables, mode_module, mode_period, Replacement, combined, donor_module, donor_switch, order, new_numbers, patched, place_among, Numbering, module_at, switch_at, new_mode, new_module, new_inv, new_switch, switches_of, switch_of_mode}
use Rattle.htl_patch.proofs.{Members.Has, Members.in_flat, Members.in_places_0, Members.places_append, Members.places_nothing, Members.places_map, Members.place_get, Members.place_test, Replacing.CanReplace, Replacing.order_apart}
use Rattle.htl_patch.proofs.Renumbering.{invs_new, mode_new, module_new, inv_new, owned_places, modes_apart, switches_apart, switch_owner}
use Rattle.htl_patch.proofs.Rooted.{behind, in_range, inv_at_is, invs_front, mode_at_is, modes_front}

module _ (g : Replacement) (c : CanReplace g) (s : Cone) (a : IsUntouched g s) where
  abbrev apart : AreApart (order g)
  apart = order_apart g c

  abbrev n : Numbering
  n = new_numbers g

  abbrev t : Tables
  t = g.host

  abbrev u : Tables
  u = combined g

  -- ---- the host's items are in front

  pub switches_front : (m : ℕ) → m < length t.modes → switches_of u m ≡ switches_of t m
  switches_front m less =
      places_append (switch_of_mode m) 0 t.switches (map (donor_switch g) g.donor.switches)
      ∙ ap (λ ks. switches_of t m ++ ks) (places_nothing (switch_of_mode m) (0 + length t.switches) (map (donor_switch g) g.donor.switches)
      (λ w h. (let r = from_map (donor_switch g) g.donor.switches h.0 w h.1 in ap (switch_of_mode m) (sym r.2) ∙ behind (length t.modes) r.0.mode m less)))
      ∙ append-nil (switches_of t m)

  pub module_front : (k : ℕ) (x : Module) → slice_get t.modules k ≡ Some x → module_at u k ≡ x
  module_front k x e = get_or_from_slice_get u.modules k x _ (get_front t.modules (map (donor_module g) g.donor.modules) k x e)

  pub switch_front : (k : ℕ) (x : Switch) → slice_get t.switches k ≡ Some x → switch_at u k ≡ x
  switch_front k x e = get_or_from_slice_get u.switches k x _ (get_front t.switches (map (donor_switch g) g.donor.switches) k x e)

  -- ---- modules

  module_low : (x : ℕ) → s.modules x → x < length t.modules
  module_low x inside = let m = a.modules x inside in slice_get_within t.modules x m.0 m.1

  module_has : (x : ℕ) → s.modules x → Has (order g) x
  module_has x inside = module_stays g c s a x inside

  -- a mode of a module that is in range and in the cone
  pub mode_in : (m : ℕ) → m < length t.modes → s.modules (mode_module t m) → IsModeIn t s m
  mode_in m less inside =
      let r = item_at t.modes m less in record { mode = r.0; there = r.1; owner = subst s.modules (module_is t m r.0 r.1) inside }

  new_module_there : (x : ℕ) (inside : s.modules x) → slice_get (patched g).modules (place_among x (order g)) ≡ Some (new_module n (a.modules x inside).0)
  new_module_there x inside =
      let m = a.modules x inside in module_new u (order g) apart x (module_has x inside) ∙ ap (λ (y : Module). Some (new_module n y)) (module_front x m.0 m.1)

  pub same_module : (x : ℕ) → s.modules x → SameModule t (patched g) s (λ y. place_among y (order g)) (λ m. place_among m n.modes) x
  same_module x inside =
      let m = a.modules x inside in
      record {
        here = m.0;
        there = m.1;
        other = new_module n m.0;
        elsewhere = new_module_there x inside;
        start = refl;
        parent = refl;
        above = λ p e. mode_in p (parent_low m.0.parent p e (c.host.modules x m.0 m.1).parent) (m.2.above p e);
      }
    where
      parent_low : (o : Option ℕ) (p : ℕ) → o ≡ Some p → IfSome o (IsModeThat t (λ owner. owner < x)) → p < length t.modes
      parent_low None p e r = absurd (let z : ⊥ = cc in z)
      parent_low (Some q) p e r = let same : q ≡ p = cc in let w = slice_get_within t.modes q r.0 r.1 in omega (arith, same, w)

  -- ---- modes

  pub mode_low : (m : ℕ) → IsModeIn t s m → m < length t.modes
  mode_low m is = slice_get_within t.modes m is.mode is.there

  pub mode_has : (m : ℕ) → IsModeIn t s m → Has n.modes m
  mode_has m is =
      let x = is.mode.«module» in
      in_flat (modes_of u) (order g) x m (module_has x is.owner)
      (subst (λ ms. Has ms m) (sym (modes_front g c x (module_low x is.owner))) (in_places_0 (mode_of_module x) t.modes m is.mode is.there (eq-eqb x x refl)))

  new_mode_there : (m : ℕ) (is : IsModeIn t s m) → slice_get (patched g).modes (place_among m n.modes) ≡ Some (new_mode n is.mode)
  new_mode_there m is = mode_new u (order g) apart m (mode_has m is) ∙ ap (λ (y : Mode). Some (new_mode n y)) (mode_at_is g c m is.mode is.there)

  pub owner_same : (m : ℕ) → IsModeIn t s m → mode_module (patched g) (place_among m n.modes) ≡ place_among (mode_module t m) (order g)
  owner_same m is = module_is (patched g) (place_among m n.modes) (new_mode n is.mode) (new_mode_there m is) ∙ ap (λ y. place_among y (order g)) (sym (module_is t m is.mode is.there))

  pub period_same : (m : ℕ) → IsModeIn t s m → mode_period (patched g) (place_among m n.modes) ≡ mode_period t m
  period_same m is =
      let period : Option Mode → ℕ = λ o. elim o as (λ _. ℕ) [ Some x ↦ x.period | None ↦ 0 ] in ap period (new_mode_there m is) ∙ sym (ap period is.there)

  pub module_name_same : (x : ℕ) → s.modules x → module_name (patched g) (place_among x (order g)) ≡ module_name t x
  module_name_same x inside =
      let name : Option Module → List ℕ = λ o. elim o as (λ _. List ℕ) [ Some y ↦ y.name | None ↦ [] ] in
      ap name (new_module_there x inside) ∙ sym (ap name (a.modules x inside).1)

  pub mode_name_same : (m : ℕ) → IsModeIn t s m → mode_name (patched g) (place_among m n.modes) ≡ mode_name t m
  mode_name_same m is =
      let name : Option Mode → List ℕ = λ o. elim o as (λ _. List ℕ) [ Some y ↦ y.name | None ↦ [] ] in ap name (new_mode_there m is) ∙ sym (ap name is.there)

  pub test_same : (m k : ℕ) → IsModeIn t s m → IsModeIn t s k → eqb (place_among m n.modes) (place_among k n.modes) ≡ eqb m k
  test_same m k is also = place_test n.modes m k (mode_has m is) (mode_has k also)

  -- ---- switches

  pub switches_new : (m : ℕ) → IsModeIn t s m → switches_of (patched g) (place_among m n.modes) ≡ map (λ k. place_among k n.switches) (switches_of t m)
  switches_new m is =
      places_map (switch_of_mode (place_among m n.modes)) (λ (k : ℕ). new_switch n (switch_at u k)) 0 n.switches
      ∙ owned_places (switches_of u) (λ k. place_among (switch_at u k).mode n.modes) n.modes (modes_apart u (order g) apart) (switches_apart u (order g) apart)
      (λ y k i h. ap (λ v. place_among v n.modes) (switch_owner u y k h)) m (mode_has m is)
      ∙ ap (map (λ k. place_among k n.switches)) (switches_front m (mode_low m is))

  -- a switch of a mode of the cone
  pub switch_has : (m k : ℕ) → IsModeIn t s m → Has (switches_of t m) k → Has n.switches k
  switch_has m k is h = in_flat (switches_of u) n.modes m k (mode_has m is) (subst (λ ks. Has ks k) (sym (switches_front m (mode_low m is))) h)

  pub switch_new : (k : ℕ) (x : Switch) → Has n.switches k → slice_get t.switches k ≡ Some x → slice_get (patched g).switches (place_among k n.switches) ≡ Some (new_switch n x)
  switch_new k x h e =
      get_mapped (λ (j : ℕ). new_switch n (switch_at u j)) n.switches (place_among k n.switches) k (place_get n.switches k h) ∙ ap (λ (y : Switch). Some (new_switch n y)) (switch_front k x e)

  -- ---- invocations

  -- the mode of an invocation whose module is in the cone
  pub inv_mode_in : (k : ℕ) (x : Inv) → slice_get t.invs k ≡ Some x → s.modules (mode_module t x.mode) → IsModeIn t s x.mode
  inv_mode_in k x e inside = mode_in x.mode (in_range g c k x e).owner inside

  pub inv_has : (k : ℕ) (x : Inv) → slice_get t.invs k ≡ Some x → IsModeIn t s x.mode → Has n.invs k
  inv_has k x e is =
      in_flat (invs_of u) n.modes x.mode k (mode_has x.mode is)
      (subst (λ ks. Has ks k) (sym (invs_front g c x.mode (mode_low x.mode is))) (in_places_0 (inv_of_mode x.mode) t.invs k x e (eq-eqb x.mode x.mode refl)))

  pub invs_same : (m : ℕ) → IsModeIn t s m → invs_of (patched g) (place_among m n.modes) ≡ map (λ k. place_among k n.invs) (invs_of t m)
  invs_same m is = invs_new u (order g) apart m (mode_has m is) ∙ ap (map (λ k. place_among k n.invs)) (invs_front g c m (mode_low m is))

  pub new_inv_there : (k : ℕ) (x : Inv) → slice_get t.invs k ≡ Some x → IsModeIn t s x.mode → slice_get (patched g).invs (place_among k n.invs) ≡ Some (new_inv n x)
  new_inv_there k x e is = inv_new u (order g) apart k (inv_has k x e is) ∙ ap (λ (y : Inv). Some (new_inv n y)) (inv_at_is g c k x e)
