-- No mode of renumbered tables has too many invocations.
use Rattle.std.proofs.Common.{◌≡◌, ◌≤◌, ℕ, eqb, List, [], length, slice_get, Option, Some, None, refl, sym, ◌∙◌, ap, subst, arith}
use Rattle.htl_patch.proofs.Words.{count_by, length-map, MAX_MODE_INVOCATIONS, places_from, AreApart, Inv, inv_of_mode, invs_of, Tables, place_among, Numbering, numbering, inv_at, new_inv, renumbered, ne_eqb, get_or_from_slice_get, count_places, from_map}
use Rattle.htl_patch.proofs.{Members.Has, Members.of_flat, Members.place_get, Members.place_at, Members.places_nothing, Renumbering.inv_there, Renumbering.modes_apart, Renumbering.invs_new, Sound.IsSound}

module _ (u : Tables) (units : List ℕ) (sound : IsSound u) (apart : AreApart units) where
  abbrev n : Numbering
  n = numbering u units

  abbrev t : Tables
  t = renumbered u n

  inv_of : (k : ℕ) → Has n.invs k → (y : ℕ) × Has n.modes y × (x : Inv) × (slice_get u.invs k ≡ Some x) × (x.mode ≡ y) × (inv_at u k ≡ x)
  inv_of k h =
      let r = of_flat (invs_of u) n.modes k h in
      let s = inv_there u r.0 k r.2 in
      (r.0, r.1, s.0, s.1, s.2, get_or_from_slice_get u.invs k s.0 _ s.1)

  mode_place_at : (i z : ℕ) → slice_get n.modes i ≡ Some z → place_among z n.modes ≡ i
  mode_place_at i z e = place_at n.modes i z (modes_apart u units apart) e

  pub widths : (m : ℕ) → count_by (λ i. eqb i.mode m) t.invs ≤ MAX_MODE_INVOCATIONS
  widths m = by (slice_get n.modes m) refl
    where
      by : (o : Option ℕ) → slice_get n.modes m ≡ o → count_by (λ i. eqb i.mode m) t.invs ≤ MAX_MODE_INVOCATIONS
      by (Some x) e =
          let at = mode_place_at m x e in
          let new = ap length (invs_new u units apart x (m, e)) in
          let size = length-map (invs_of u x) (λ k. place_among k n.invs) in
          let here = count_places (inv_of_mode (place_among x n.modes)) 0 t.invs in
          let there = count_places (inv_of_mode x) 0 u.invs in
          let few = sound.few_in_mode x in
          subst (λ (k : ℕ). count_by (λ i. eqb i.mode k) t.invs ≤ MAX_MODE_INVOCATIONS) at (omega (arith, new, size, here, there, few))
      by None e =
          let here = count_places (inv_of_mode m) 0 t.invs in
          let nothing : places_from (inv_of_mode m) 0 t.invs ≡ [] =
          places_nothing (inv_of_mode m) 0 t.invs (λ i h. (let r = from_map (λ (k : ℕ). new_inv n (inv_at u k)) n.invs h.0 i h.1 in
          let s = inv_of r.0 (h.0, r.1) in
          let mode : i.mode ≡ place_among s.0 n.modes = ap (λ (x : Inv). x.mode) (sym r.2) ∙ ap (λ (x : Inv). place_among x.mode n.modes) s.5 ∙ ap (λ (y : ℕ). place_among y n.modes) s.4 in
          ne_eqb i.mode m (λ same. (let f : None ≡ Some s.0 = sym e ∙ ap (slice_get n.modes) (sym same ∙ mode) ∙ place_get n.modes s.0 s.1 in absurd cc)))) in
          let zero = ap length nothing in
          omega (arith, here, zero)
