-- A mode of the cone is switched to what it was switched to.
use Rattle.std.proofs.Common.{◌≡◌, subst, sym, ◌+◌, ℕ, suc, Bool, true, false, cond, not, ◌&&◌, eqb, List, [], ◌∷◌, map, get_or, slice_get, Some, ℤ, pos, refl, ◌∙◌, ap, arith}
use Rattle.htl_exchange.proofs.{Words.Switch, Words.switch_holds, Words.target, Words.target_from, Cones.Cone, Cones.IsUntouched, Matches.IsModeIn, Matches.owner_in, Matches.SameOn, KeptFunctions.switch_same}
use Rattle.htl_model.specs.{Functions.is_zero, Tables.function_value}
use Rattle.htl_base.proofs.Places.{map_same}
use Rattle.htl_patch.proofs.Words.{slice_get_within, get_or_from_slice_get, all_at, AreInRange, Tables, mode_module, switch_function, Joins, Replacement, new_numbers, patched, place_among, places_from, Numbering, new_switch, switch_at, switches_of, switch_of_mode}
use Rattle.htl_patch.proofs.{Members.Has, Renumbering.switch_there, Replacing.CanReplace}
use Rattle.htl_exchange.proofs.KeptItems.{switches_new, switch_has, switch_new}

-- the mode that the first of these switches that holds names; m where none holds
abbrev pub first_target : Tables → List ℤ → ℕ → List ℕ → ℕ
first_target t v m [] = m
first_target t v m (k ∷ ks) = cond (switch_holds t v k (switch_at t k)) (switch_at t k).target (first_target t v m ks)

-- of all switches those of the mode alone count
target_is : (t : Tables) (v : List ℤ) (m k : ℕ) (ws : List Switch) → ((i : ℕ) → slice_get t.switches (k + i) ≡ slice_get ws i)
    → target_from t v m k ws ≡ first_target t v m (places_from (switch_of_mode m) k ws)
target_is t v m k [] at = refl
target_is t v m k (w ∷ ws) at =
    by (eqb w.mode m) (target_is t v m (suc k) ws (λ i. (let z : suc k + i ≡ k + suc i = omega arith in ap (slice_get t.switches) z ∙ at (suc i))))
  where
    here : switch_at t k ≡ w
    here = let z : k ≡ k + 0 = omega arith in get_or_from_slice_get t.switches k w _ (ap (slice_get t.switches) z ∙ at 0)

    by : (b : Bool) → target_from t v m (suc k) ws ≡ first_target t v m (places_from (switch_of_mode m) (suc k) ws)
        → cond (b && switch_holds t v k w) w.target (target_from t v m (suc k) ws)
        ≡ first_target t v m (cond b (k ∷ places_from (switch_of_mode m) (suc k) ws) (places_from (switch_of_mode m) (suc k) ws))
    by false rest = rest
    by true rest =
        ap (λ (x : Switch). cond (switch_holds t v k x) x.target (target_from t v m (suc k) ws)) (sym here)
        ∙ ap (cond (switch_holds t v k (switch_at t k)) (switch_at t k).target) rest

target_first : (t : Tables) (v : List ℤ) (m : ℕ) → target t v m ≡ first_target t v m (switches_of t m)
target_first t v m = target_is t v m 0 t.switches (λ i. (let z : 0 + i ≡ i = omega arith in ap (slice_get t.switches) z))

module _ (g : Replacement) (c : CanReplace g) (j : Joins g) (range : AreInRange (patched g)) (s : Cone) (a : IsUntouched g s) where
  abbrev t : Tables
  t = g.host

  abbrev n : Numbering
  n = new_numbers g

  -- a switch of the cone holds where it held
  holds_same : (v w : List ℤ) (m k : ℕ) (x : Switch) → SameOn s v w → IsModeIn t s m → Has (switches_of t m) k → slice_get t.switches k ≡ Some x → x.mode ≡ m
      → switch_holds (patched g) w (place_among k n.switches) (new_switch n x) ≡ switch_holds t v k x
  holds_same v w m k x same is h at mode =
      let reads = a.switches k x at (subst (λ y. s.modules (mode_module t y)) (sym mode) (owner_in t s m is)) in
      let args : map (λ c. get_or w c (pos 0)) x.reads ≡ map (λ c. get_or v c (pos 0)) x.reads =
      map_same (λ c. get_or w c (pos 0)) (λ c. get_or v c (pos 0)) x.reads (λ i c e. same c (all_at s.comms x.reads i c reads e)) in
      ap (λ (z : ℤ). not (is_zero z))
      (switch_same g c j range k (map (λ c. get_or w c (pos 0)) x.reads) (switch_has g c s a m k is h) (slice_get_within t.switches k x at)
      ∙ ap (function_value t (switch_function t k)) args)

  first_same : (v w : List ℤ) (m : ℕ) (ks : List ℕ) → SameOn s v w → IsModeIn t s m → ((k : ℕ) → Has ks k → Has (switches_of t m) k)
      → first_target (patched g) w (place_among m n.modes) (map (λ k. place_among k n.switches) ks) ≡ place_among (first_target t v m ks) n.modes
  first_same v w m [] same is all = refl
  first_same v w m (k ∷ ks) same is all =
      let h = all k (0, refl) in
      let r = switch_there t m k h in
      let x : Switch = r.0 in
      let place = place_among k n.switches in
      let new : switch_at (patched g) place ≡ new_switch n x = get_or_from_slice_get (patched g).switches place (new_switch n x) _ (switch_new g c s a k x (switch_has g c s a m k is h) r.1) in
      let old : switch_at t k ≡ x = get_or_from_slice_get t.switches k x _ r.1 in
      let rest = first_target (patched g) w (place_among m n.modes) (map (λ k. place_among k n.switches) ks) in
      ap (λ (y : Switch). cond (switch_holds (patched g) w place y) y.target rest) new
      ∙ ap (λ b. cond b (place_among x.target n.modes) rest) (holds_same v w m k x same is h r.1 r.2)
      ∙ ap (cond (switch_holds t v k x) (place_among x.target n.modes)) (first_same v w m ks same is (λ i l. all i (suc l.0, l.1)))
      ∙ by (switch_holds t v k x) x.target (first_target t v m ks)
      ∙ ap (λ (y : Switch). place_among (cond (switch_holds t v k y) y.target (first_target t v m ks)) n.modes) (sym old)
    where
      by : (b : Bool) (p q : ℕ) → cond b (place_among p n.modes) (place_among q n.modes) ≡ place_among (cond b p q) n.modes
      by true p q = refl
      by false p q = refl

  pub target_same : (v w : List ℤ) (m : ℕ) → SameOn s v w → IsModeIn t s m → target (patched g) w (place_among m n.modes) ≡ place_among (target t v m) n.modes
  target_same v w m same is =
      target_first (patched g) w (place_among m n.modes) ∙ ap (first_target (patched g) w (place_among m n.modes)) (switches_new g c s a m is)
      ∙ first_same v w m (switches_of t m) same is (λ k h. h) ∙ ap (λ k. place_among k n.modes) (sym (target_first t v m))
