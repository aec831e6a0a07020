-- The modes that run in a frame make one path, whose positions are those of the modes.
use Rattle.std.proofs.Common.{◌≡◌, ℕ, suc, ◌+◌, ◌*◌, ◌<◌, List, [], ◌∷◌, ◌++◌, length, get_or, Option, Some, None, refl, sym, ap, ap₂, ◌∙◌, arith}
use Rattle.htl_refine.proofs.Words.{IsSelection, modes_of, invs_of, Tables, running_invs, entry_place, Round, rounds, choices, mode_in, places_of, places_in, path_in, path_of, running_places, PathsRead}
use Rattle.htl_refine.proofs.{MixedRadix.digits, MixedRadix.regroup, MixedRadix.digit, PathDerived.AreRootRounds, PathDerived.path_rounds, RootSelection.root_place}

module _ (t : Tables) (modes : ℕ → List (Option ℕ)) (selections : (a : ℕ) → IsSelection t (modes a)) where
  pub below : (rs : List Round) → AreRootRounds t rs → path_in t modes rs < choices t rs
  below [] h = omega arith
  below (r ∷ rs) h =
      let x = h 0 r refl in
      digits (entry_place t (modes r.at) r.unit) (choices t rs) (length (modes_of t r.unit)) (path_in t modes rs)
      (root_place t (modes r.at) (selections r.at) r.unit x.0 x.1 x.2).0 (below rs (λ p z e. h (suc p) z e))

  -- whatever comes before these rounds
  pub read : (rs : List Round) (d : ℕ) → AreRootRounds t rs → places_in t (d * choices t rs + path_in t modes rs) rs ≡ running_places t modes rs
  read [] d h = refl
  read (r ∷ rs) d h =
      let x = h 0 r refl in
      let l = length (modes_of t r.unit) in
      let c = choices t rs in
      let e = entry_place t (modes r.at) r.unit in
      let q = path_in t modes rs in
      let place = root_place t (modes r.at) (selections r.at) r.unit x.0 x.1 x.2 in
      let later = below rs (λ p z f. h (suc p) z f) in
      let invs : invs_of t (mode_in t (d * (l * c) + (e * c + q)) r rs) ≡ running_invs t (modes r.at) r.unit =
      ap (λ n. invs_of t (get_or (modes_of t r.unit) n 0)) (digit d l c e q place.0 later) ∙ sym (ap (λ (o : Option ℕ). elim o [ Some m ↦ invs_of t m | None ↦ [] ]) place.1) in
      ap₂ (λ ks xs. places_of r.at ks ++ xs) invs
      (ap (λ n. places_in t n rs) (regroup d l c e q) ∙ read rs (d * l + e) (λ p z f. h (suc p) z f))

pub paths_read : PathsRead
paths_read t modes selections =
    record {
      below = below t modes selections (rounds t) (path_rounds t);
      places = sym (read t modes selections (rounds t) 0 (path_rounds t)) ∙ ap (λ n. places_in t n (rounds t)) (let z : 0 * choices t (rounds t) + path_of t modes ≡ path_of t modes = omega arith in z);
    }
