-- What stands at the positions that have begun, start by start.
use Rattle.std.proofs.Common.{append_assoc, ◌≡◌, ℕ, zero, suc, ◌+◌, ◌%◌, ◌≤◌, ◌<◌, Bool, true, false, cond, eqb, List, [], ◌∷◌, ◌++◌, length, map, drop, drop-cons, take, get_or, add-one, Option, Some, None, refl, sym, ◌∙◌, ap, subst, arith}
use Rattle.htl_refine.proofs.Words.{slice_get, flat_map, All, get_or-map, length-append, length-map, Place, Round, Module, unit_period, rounds_of, rounds_at, places_of, most_invs, most_positions, entry, IsSelection, IsEntry, IsModeOf, is_root, root_modules, mode_of_module, modes_of, invs_of, Tables, start_places, standing_place, begun_places, modes_of_all, Selection, eq-eqb, none-some}
use Rattle.htl_refine.proofs.Members.{of_places, at_place}

-- ---- one module, and one start, more

pub begun_more : (t : Tables) (sels : List (List (Option ℕ))) (as' : List ℕ) (j : ℕ) → j < length sels → j < length as'
    → begun_places t (drop j sels) (drop j as') ≡ map (standing_place t (get_or sels j [])) (start_places t (get_or sels j []) (get_or as' j 0) (root_modules t)) ++ begun_places t (drop (j + 1) sels) (drop (j + 1) as')
begun_more t sels as' j l k = rw add-one (ap (λ ms. begun_places t ms (drop j as')) (drop-cons sels j [] l) ∙ ap (begun_places t (get_or sels j [] ∷ drop (suc j) sels)) (drop-cons as' j 0 k))

begun_cut : (t : Tables) (sels : List (List (Option ℕ))) (as' : List ℕ) (j : ℕ) (m : List (Option ℕ)) (a : ℕ) (us : List ℕ) → j < length sels → j < length as' → m ≡ get_or sels j [] → a ≡ get_or as' j 0 → us ≡ root_modules t
    → begun_places t (drop j sels) (drop j as') ≡ map (standing_place t m) (start_places t m a us) ++ begun_places t (drop (j + 1) sels) (drop (j + 1) as')
begun_cut t sels as' j m a us l k em ea eu = grind (arith, begun_more)

-- the positions of one start more are written
pub begun_step : (t : Tables) (sels : List (List (Option ℕ))) (as' : List ℕ) (j n end : ℕ) (out new : List Place) (m : List (Option ℕ)) (a : ℕ) (us : List ℕ) (whole : List Place)
    → j < length sels → j < length as' → m ≡ get_or sels j [] → a ≡ get_or as' j 0 → us ≡ root_modules t
    → take end new ≡ take n out ++ map (standing_place t m) (start_places t m a us) → end ≡ n + length (start_places t m a us)
    → take n out ++ begun_places t (drop j sels) (drop j as') ≡ whole → n + length (begun_places t (drop j sels) (drop j as')) ≡ length whole
    → (take end new ++ begun_places t (drop (j + 1) sels) (drop (j + 1) as') ≡ whole) × (end + length (begun_places t (drop (j + 1) sels) (drop (j + 1) as')) ≡ length whole)
begun_step t sels as' j n end out new m a us whole l k em ea eu f c front count =
    let rest = begun_places t (drop (j + 1) sels) (drop (j + 1) as') in
    let mine = map (standing_place t m) (start_places t m a us) in
    let cut : begun_places t (drop j sels) (drop j as') ≡ mine ++ rest = begun_cut t sels as' j m a us l k em ea eu in (
      ap (λ zs. zs ++ rest) f ∙ append_assoc (take n out) mine rest ∙ ap (λ zs. take n out ++ zs) (sym cut) ∙ front,
      omega (arith, c, count, ap (λ (zs : List Place). length zs) cut, length-append mine rest, length-map (start_places t m a us) (standing_place t m)),
    )

pub begun_room : (t : Tables) (sels : List (List (Option ℕ))) (as' : List ℕ) (j n : ℕ) (m : List (Option ℕ)) (a : ℕ) (us : List ℕ) (whole : ℕ) → j < length sels → j < length as' → m ≡ get_or sels j [] → a ≡ get_or as' j 0
    → us ≡ root_modules t → n + length (begun_places t (drop j sels) (drop j as')) ≡ whole → n + length (start_places t m a us) ≤ whole
begun_room t sels as' j n m a us whole l k em ea eu count =
    let rest = begun_places t (drop (j + 1) sels) (drop (j + 1) as') in
    let mine = map (standing_place t m) (start_places t m a us) in
    omega (arith, count, ap (λ (zs : List Place). length zs) (begun_cut t sels as' j m a us l k em ea eu), length-append mine rest, length-map (start_places t m a us) (standing_place t m))

-- ---- the modes of selections

pub selections_of : (t : Tables) (sels : List Selection) → All (λ s. IsSelection t s.modes) sels → All (IsSelection t) (modes_of_all sels)
selections_of t [] h = λ k d l. absurd (omega (arith, l))
selections_of t (s ∷ sels) h = go (h 0 s (omega arith)) (selections_of t sels (λ j e m. h (suc j) e (omega (arith, m))))
  where
    go : IsSelection t s.modes → All (IsSelection t) (modes_of_all sels) → (k : ℕ) (d : List (Option ℕ)) → k < length (modes_of_all (s ∷ sels)) → IsSelection t (get_or (modes_of_all (s ∷ sels)) k d)
    go first rest zero d l = first
    go first rest (suc k) d l = rest k d (omega (arith, l))

pub modes_read : (sels : List Selection) (j : ℕ) (d : Selection) → j < length sels → (get_or sels j d).modes ≡ get_or (modes_of_all sels) j []
modes_read sels j d l = sym (get_or-map (λ (s : Selection). s.modes) sels j d [] l)

pub as_many : (sels : List Selection) → length (modes_of_all sels) ≡ length sels
as_many sels = length-map sels (λ (s : Selection). s.modes)

-- ---- there are no more positions than a path may have

pub most_append : (t : Tables) (rs ss : List Round) → most_positions t (rs ++ ss) ≡ most_positions t rs + most_positions t ss
most_append t [] ss = omega arith
most_append t (r ∷ rs) ss = omega (arith, most_append t rs ss)

most_has : (t : Tables) (ms : List ℕ) (i m : ℕ) → slice_get ms i ≡ Some m → length (invs_of t m) ≤ most_invs t ms
most_has t [] i m e = absurd (none-some m e)
most_has t (x ∷ ms) zero m e = let same : x ≡ m = cc in omega (arith, ap (λ n. length (invs_of t n)) same)
most_has t (x ∷ ms) (suc i) m e = omega (arith, most_has t ms i m e)

entry_few : (t : Tables) (m : List (Option ℕ)) (u : ℕ) (parent o : Option ℕ) → IsEntry t m u parent o → (a : ℕ) → length (elim o as (λ _. List Place) [ Some n ↦ places_of a (invs_of t n) | None ↦ [] ]) ≤ most_invs t (modes_of t u)
entry_few t m u parent None e a = omega arith
entry_few t m u parent (Some n) e a =
    let own : IsModeOf t u n = e.0 in
    let place = at_place (mode_of_module u) t.modes n own.0 own.1 (eq-eqb own.0.«module» u own.2) in
    omega (arith, most_has t (modes_of t u) place.0 n place.1, length-map (invs_of t n) (λ (k : ℕ). let x : Place = record { inv = Some k; at = a } in x))

module _ (t : Tables) where
  abbrev AreModules : List ℕ → Type 0
  AreModules us = (i u : ℕ) → slice_get us i ≡ Some u → (x : Module) × (slice_get t.modules u ≡ Some x)

  roots_are : AreModules (root_modules t)
  roots_are i u e = let m = of_places is_root 0 t.modules i u e in let number : m.0 ≡ u = omega (arith, m.2) in (m.1, subst (λ n. slice_get t.modules n ≡ Some m.1) number m.3)

  start_few : (m : List (Option ℕ)) (a : ℕ) (us : List ℕ) → IsSelection t m → AreModules us → length (start_places t m a us) ≤ most_positions t (rounds_of t a us)
  start_few m a [] s h = omega arith
  start_few m a (u ∷ us) s h =
      let x = h 0 u refl in
      by (eqb (a % unit_period t u) 0) (entry_few t m u x.0.parent (entry m u) (s.each u x.0 x.1) a) (start_few m a us s (λ i v e. h (suc i) v e))
    where
      by : (b : Bool) → length (elim (entry m u) as (λ _. List Place) [ Some n ↦ places_of a (invs_of t n) | None ↦ [] ]) ≤ most_invs t (modes_of t u)
          → length (start_places t m a us) ≤ most_positions t (rounds_of t a us)
          → length (elim (cond b (entry m u) None) as (λ _. List Place) [ Some n ↦ places_of a (invs_of t n) | None ↦ [] ] ++ start_places t m a us)
          ≤ most_positions t (cond b (record { at = a; unit = u } ∷ rounds_of t a us) (rounds_of t a us))
      by true here behind = omega (arith, here, behind, length-append (elim (entry m u) as (λ _. List Place) [ Some n ↦ places_of a (invs_of t n) | None ↦ [] ]) (start_places t m a us))
      by false here behind = behind

  -- those of one start
  pub one_few : (m : List (Option ℕ)) (a : ℕ) → IsSelection t m → length (start_places t m a (root_modules t)) ≤ most_positions t (rounds_at t a)
  one_few m a s = start_few m a (root_modules t) s roots_are

  pub begun_few : (sels : List (List (Option ℕ))) (as' : List ℕ) → All (IsSelection t) sels → length (begun_places t sels as') ≤ most_positions t (flat_map (rounds_at t) as')
  begun_few (m ∷ ms) (a ∷ as') s =
      let rest : All (IsSelection t) ms = λ k d l. s (suc k) d (omega (arith, l)) in
      omega (
        arith,
        length-append (map (standing_place t m) (start_places t m a (root_modules t))) (begun_places t ms as'),
        length-map (start_places t m a (root_modules t)) (standing_place t m),
        one_few m a (s 0 m (omega arith)),
        begun_few ms as' rest,
        most_append t (rounds_at t a) (flat_map (rounds_at t) as'),
      )
  begun_few _ _ s = omega arith
