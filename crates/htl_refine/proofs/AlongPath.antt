-- A path whose modes are those of the selections has their positions.
use Rattle.std.proofs.Common.{append_assoc, ◌≡◌, ℕ, zero, suc, ◌+◌, ◌*◌, ◌/◌, ◌%◌, ◌≤◌, ◌<◌, Bool, true, false, cond, ◌&&◌, eqb, eqb-true, eq-eqb, ne_eqb, List, [], ◌∷◌, ◌++◌, length, map, take, drop, get_or, Option, Some, None, refl, sym, ◌∙◌, ap, arith, inl, inr}
use Rattle.htl_refine.proofs.Words.{slice_get, flat_map, div-add-mod, lt-leb, length-map, get_or_from_slice_get, none-some, Place, Round, begins, starts_below, root_periods, frame_of, unit_period, rounds_of, rounds_at, rounds, starts, mode_in, mode_from, path_mode, places_of, places_in, path_places, known_by, of_bool, entry, is_root, root_modules, invs_of, Tables, placed_job, placed_jobs, legs_of, legs, AreWithin, derived_place, derived_jobs, start_places, standing_place, begun_places, begun_jobs, start_modes, IsAlong, known_append, map_append, known_few, from_map}
use Rattle.htl_refine.proofs.{BegunTimes.start_below, BegunTimes.started_at, Members.of_joined, Members.of_flat, RisingPositions.AreRising, RisingPositions.Has, RisingPositions.joined_rise, RisingPositions.places_rise}

-- ---- lists that rise

rising_at : (xs : List ℕ) (i j x y : ℕ) → AreRising xs → slice_get xs i ≡ Some x → slice_get xs j ≡ Some y → i < j → x < y
rising_at [] i j x y r e f l = absurd (none-some x e)
rising_at (z ∷ xs) zero (suc j) x y r e f l = let same : z ≡ x = cc in omega (arith, same, r.0 y (j, f))
rising_at (z ∷ xs) (suc i) (suc j) x y r e f l = rising_at xs i j x y r.1 e f (omega (arith, l))
rising_at (z ∷ xs) _ zero x y r e f l = absurd (omega (arith, l))

starts_rise : (ps : List ℕ) (n : ℕ) → AreRising (starts_below ps n)
starts_rise ps zero = tt
starts_rise ps (suc n) = joined_rise (starts_below ps n) (cond (begins ps n) (n ∷ []) []) (starts_rise ps n) (last (begins ps n)) (λ a b h k. omega (arith, start_below ps n h.0 a h.1, only (begins ps n) b k))
  where
    last : (b : Bool) → AreRising (cond b (n ∷ []) [])
    last true = (λ a h. absurd (none-some a h.1), tt)
    last false = tt

    only : (b : Bool) (x : ℕ) → Has (cond b (n ∷ []) []) x → x ≡ n
    only true x (zero, e) = cc
    only true x (suc i, e) = absurd (none-some x e)
    only false x h = absurd (none-some x h.1)

-- ---- a round in the frame

rounds_append : (t : Tables) (a : ℕ) (us vs : List ℕ) → rounds_of t a (us ++ vs) ≡ rounds_of t a us ++ rounds_of t a vs
rounds_append t a [] vs = refl
rounds_append t a (u ∷ us) vs = grind (arith, rounds_append t a us vs)

flat_append : (t : Tables) (xs ys : List ℕ) → flat_map (rounds_at t) (xs ++ ys) ≡ flat_map (rounds_at t) xs ++ flat_map (rounds_at t) ys
flat_append t [] ys = refl
flat_append t (x ∷ xs) ys = ap (λ rs. rounds_at t x ++ rs) (flat_append t xs ys) ∙ sym (append_assoc (rounds_at t x) (flat_map (rounds_at t) xs) (flat_map (rounds_at t) ys))

cut_at : (xs : List ℕ) (j x : ℕ) → slice_get xs j ≡ Some x → xs ≡ take j xs ++ x ∷ drop (suc j) xs
cut_at [] j x e = absurd (none-some x e)
cut_at (y ∷ xs) zero x e = let same : y ≡ x = cc in ap (λ z. z ∷ xs) same
cut_at (y ∷ xs) (suc j) x e = ap (λ zs. y ∷ zs) (cut_at xs j x e)

of_front : (k p : ℕ) (xs : List ℕ) (x : ℕ) → slice_get (take k xs) p ≡ Some x → (p < k) × (slice_get xs p ≡ Some x)
of_front (suc k) zero (y ∷ xs) x e = (omega arith, e)
of_front (suc k) (suc p) (y ∷ xs) x e = let f = of_front k p xs x e in (omega (arith, f.0), f.1)
of_front _ p _ x e = absurd (none-some x e)

of_rounds : (t : Tables) (a : ℕ) (us : List ℕ) (p : ℕ) (r : Round) → slice_get (rounds_of t a us) p ≡ Some r → (r.at ≡ a) × (i : ℕ) × (slice_get us i ≡ Some r.unit)
of_rounds t a [] p r e = absurd (none-some r e)
of_rounds t a (u ∷ us) p r e = by (eqb (a % unit_period t u) 0) (λ q f. of_rounds t a us q r f) p e
  where
    more : (r.at ≡ a) × (i : ℕ) × (slice_get us i ≡ Some r.unit) → (r.at ≡ a) × (i : ℕ) × (slice_get (u ∷ us) i ≡ Some r.unit)
    more h = (h.0, suc h.1, h.2)

    by : (b : Bool) → ((q : ℕ) → slice_get (rounds_of t a us) q ≡ Some r → (r.at ≡ a) × (i : ℕ) × (slice_get us i ≡ Some r.unit)) → (p : ℕ)
        → slice_get (cond b (record { at = a; unit = u } ∷ rounds_of t a us) (rounds_of t a us)) p ≡ Some r → (r.at ≡ a) × (i : ℕ) × (slice_get (u ∷ us) i ≡ Some r.unit)
    by true behind zero f = let same : ◌≡◌ {A = Round} (record { at = a; unit = u }) r = cc in (sym (ap (λ (z : Round). z.at) same), 0, ap (λ (z : Round). Some z.unit) same)
    by true behind (suc p) f = more (behind p f)
    by false behind p f = more (behind p f)

rounds_start : (t : Tables) (as' : List ℕ) (p : ℕ) (r : Round) → slice_get (flat_map (rounds_at t) as') p ≡ Some r → (j : ℕ) × (slice_get as' j ≡ Some r.at)
rounds_start t as' p r e = let f = of_flat (rounds_at t) as' p r e in let g = of_rounds t f.1 (root_modules t) f.3 r f.4 in (f.0, f.2 ∙ ap (λ (n : ℕ). Some n) (sym g.0))

-- the mode of a round, where none like it comes before it
mode_there : (t : Tables) (path u a : ℕ) (front rest : List Round) → ((p : ℕ) (r : Round) → slice_get front p ≡ Some r → r.unit ≡ u → r.at ≡ a → ⊥)
    → mode_from t path u a (front ++ record { at = a; unit = u } ∷ rest) ≡ mode_in t path (record { at = a; unit = u }) rest
mode_there t path u a [] rest h = ap (λ b. cond b (mode_in t path (record { at = a; unit = u }) rest) (mode_from t path u a rest)) (ap (λ b. b && eqb a a) (eq-eqb u u refl) ∙ eq-eqb a a refl)
mode_there t path u a (r ∷ front) rest h =
    ap (λ b. cond b (mode_in t path r (front ++ record { at = a; unit = u } ∷ rest)) (mode_from t path u a (front ++ record { at = a; unit = u } ∷ rest))) (other (eqb r.unit u) (eqb r.at a) refl refl)
    ∙ mode_there t path u a front rest (λ p s e. h (suc p) s e)
  where
    other : (b c : Bool) → eqb r.unit u ≡ b → eqb r.at a ≡ c → (b && c) ≡ false
    other true true e f = absurd (h 0 r refl (eqb-true r.unit u e) (eqb-true r.at a f))
    other true false e f = refl
    other false c e f = refl

-- the mode of root module number i at start j, where its round begins
mode_begun : (t : Tables) (path j a i u : ℕ) → slice_get (starts t) j ≡ Some a → slice_get (root_modules t) i ≡ Some u → a % unit_period t u ≡ 0
    → path_mode t path j u ≡ mode_in t path (record { at = a; unit = u }) (rounds_of t a (drop (suc i) (root_modules t)) ++ flat_map (rounds_at t) (drop (suc j) (starts t)))
mode_begun t path j a i u at_j at_i e =
    let us = root_modules t in
    let as' = starts t in
    let p = unit_period t u in
    let here : Round = record { at = a; unit = u } in
    let before = flat_map (rounds_at t) (take j as') in
    let later = flat_map (rounds_at t) (drop (suc j) as') in
    let behind = rounds_of t a (drop (suc i) us) in
    let whole : a / p * p ≡ a = omega (arith, div-add-mod a p, e) in
    let own : rounds_of t a (u ∷ drop (suc i) us) ≡ here ∷ behind = ap (λ b. cond b (here ∷ behind) behind) (eq-eqb (a % p) 0 e) in
    let round : rounds_at t a ≡ rounds_of t a (take i us) ++ here ∷ behind = ap (rounds_of t a) (cut_at us i u at_i) ∙ rounds_append t a (take i us) (u ∷ drop (suc i) us) ∙ ap (λ rs. rounds_of t a (take i us) ++ rs) own in
    let frame : rounds t ≡ (before ++ rounds_of t a (take i us)) ++ here ∷ (behind ++ later) =
    ap (flat_map (rounds_at t)) (cut_at as' j a at_j) ∙ flat_append t (take j as') (a ∷ drop (suc j) as') ∙ ap (λ rs. before ++ (rs ++ later)) round
    ∙ ap (λ rs. before ++ rs) (append_assoc (rounds_of t a (take i us)) (here ∷ behind) later) ∙ sym (append_assoc before (rounds_of t a (take i us)) (here ∷ (behind ++ later))) in
    ap (λ n. mode_from t path u n (rounds t)) (ap (λ n. n / p * p) (get_or_from_slice_get as' j a 0 at_j) ∙ whole) ∙ ap (mode_from t path u a) frame
    ∙ mode_there t path u a (before ++ rounds_of t a (take i us)) (behind ++ later) (λ q r f unit at. elim (of_joined before (rounds_of t a (take i us)) q r f) [
      | inl g ↦
          let s = rounds_start t (take j as') q r g in
          let f = of_front j s.0 as' r.at s.1 in
          absurd (omega (arith, rising_at as' s.0 j r.at a (starts_rise (root_periods t) (frame_of t)) f.1 at_j f.0, at))
      | inr g ↦
          let s = of_rounds t a (take i us) g.0 r g.1 in
          let f = of_front i s.1 us r.unit s.2 in
          absurd (omega (arith, rising_at us s.1 i r.unit u (places_rise is_root 0 t.modules) f.1 at_i f.0, unit))
    ])

-- ---- the root invocations that have begun

abbrev root_places : Tables → List (List (Option ℕ)) → List ℕ → List Place
root_places t (m ∷ ms) (a ∷ as') = start_places t m a (root_modules t) ++ root_places t ms as'
root_places t _ _ = []

module _ (t : Tables) (path : ℕ) where
  along_start : (m : List (Option ℕ)) (a : ℕ) (us : List ℕ) (later : List Round)
      → ((i u : ℕ) → slice_get us i ≡ Some u → a % unit_period t u ≡ 0 → entry m u ≡ Some (mode_in t path (record { at = a; unit = u }) (rounds_of t a (drop (suc i) us) ++ later)))
      → places_in t path (rounds_of t a us ++ later) ≡ start_places t m a us ++ places_in t path later
  along_start m a [] later h = refl
  along_start m a (u ∷ us) later h = by (eqb (a % unit_period t u) 0) refl (along_start m a us later (λ i v e. h (suc i) v e))
    where
      shown : Option ℕ → List Place
      shown o = elim o as (λ _. List Place) [ Some n ↦ places_of a (invs_of t n) | None ↦ [] ]

      by : (b : Bool) → eqb (a % unit_period t u) 0 ≡ b → places_in t path (rounds_of t a us ++ later) ≡ start_places t m a us ++ places_in t path later
          → places_in t path (cond b (record { at = a; unit = u } ∷ rounds_of t a us) (rounds_of t a us) ++ later) ≡ (shown (cond b (entry m u) None) ++ start_places t m a us) ++ places_in t path later
      by true e behind =
          let r : Round = record { at = a; unit = u } in
          let ks = places_of a (invs_of t (mode_in t path r (rounds_of t a us ++ later))) in
          let mine : shown (entry m u) ≡ ks = ap shown (h 0 u refl (eqb-true (a % unit_period t u) 0 e)) in
          ap (λ xs. ks ++ xs) behind ∙ sym (append_assoc ks (start_places t m a us) (places_in t path later)) ∙ sym (ap (λ xs. (xs ++ start_places t m a us) ++ places_in t path later) mine)
      by false e behind = behind

  along_places : (ms : List (List (Option ℕ))) (as' : List ℕ) → length ms ≤ length as'
      → ((j a i u : ℕ) (m : List (Option ℕ)) → slice_get ms j ≡ Some m → slice_get as' j ≡ Some a → slice_get (root_modules t) i ≡ Some u → a % unit_period t u ≡ 0
      → entry m u ≡ Some (mode_in t path (record { at = a; unit = u }) (rounds_of t a (drop (suc i) (root_modules t)) ++ flat_map (rounds_at t) (drop (suc j) as'))))
      → places_in t path (flat_map (rounds_at t) as') ≡ root_places t ms as' ++ places_in t path (flat_map (rounds_at t) (drop (length ms) as'))
  along_places [] as' l h = refl
  along_places (m ∷ ms) [] l h = absurd (omega (arith, l))
  along_places (m ∷ ms) (a ∷ as') l h =
      along_start m a (root_modules t) (flat_map (rounds_at t) as') (λ i u e f. h 0 a i u m refl refl e f)
      ∙ ap (λ xs. start_places t m a (root_modules t) ++ xs) (along_places ms as' (omega (arith, l)) (λ j b i u n e f. h (suc j) b i u n e f))
      ∙ sym (append_assoc (start_places t m a (root_modules t)) (root_places t ms as') (places_in t path (flat_map (rounds_at t) (drop (length ms) as'))))

  pub along_whole : (sels : List (List (Option ℕ))) → length sels ≤ length (starts t) → IsAlong t path sels
      → path_places t path ≡ root_places t sels (starts t) ++ places_in t path (flat_map (rounds_at t) (drop (length sels) (starts t)))
  along_whole sels few along = along_places sels (starts t) few (λ j a i u m at_m at_a at_u e.
      let here = get_or_from_slice_get (starts t) j a 0 at_a in
      along j u m at_m i at_u (ap (λ n. n % unit_period t u) here ∙ e) ∙ ap (λ (n : ℕ). Some n) (mode_begun t path j a i u at_a at_u e))

-- ---- and what stands for them

same_map : {B : Type 0} (f g : Place → B) (xs : List Place) → ((p : ℕ) (x : Place) → slice_get xs p ≡ Some x → f x ≡ g x) → map f xs ≡ map g xs
same_map f g [] h = refl
same_map f g (x ∷ xs) h = ap (λ y. y ∷ map f xs) (h 0 x refl) ∙ ap (λ ys. g x ∷ ys) (same_map f g xs (λ p y e. h (suc p) y e))

module _ (t : Tables) where
  root_at : (ms : List (List (Option ℕ))) (as' : List ℕ) (p : ℕ) (x : Place) → slice_get (root_places t ms as') p ≡ Some x → Has as' x.at
  root_at (m ∷ ms) (a ∷ as') p x e = elim (of_joined (start_places t m a (root_modules t)) (root_places t ms as') p x e) [
    | inl f ↦ (0, ap (λ (n : ℕ). Some n) (sym (started_at t m a (root_modules t) p x f)))
    | inr f ↦ let j = root_at ms as' f.0 x f.1 in (suc j.0, j.1)
  ]
  root_at _ _ p x e = absurd (none-some x e)

  stands_as : (ms : List (List (Option ℕ))) (as' : List ℕ) → AreRising as' → begun_places t ms as' ≡ map (derived_place t (start_modes ms as')) (root_places t ms as')
  stands_as (m ∷ ms) (a ∷ as') r =
      let xs = start_places t m a (root_modules t) in
      let ys = root_places t ms as' in
      let whole = start_modes (m ∷ ms) (a ∷ as') in
      let here : map (standing_place t m) xs ≡ map (derived_place t whole) xs =
      same_map (standing_place t m) (derived_place t whole) xs (λ p x e. by_modes x m (whole x.at) (sym (ap (λ b. cond b m (start_modes ms as' x.at)) (eq-eqb x.at a (started_at t m a (root_modules t) p x e))))) in
      let later : map (derived_place t (start_modes ms as')) ys ≡ map (derived_place t whole) ys =
      same_map (derived_place t (start_modes ms as')) (derived_place t whole) ys (λ p x e.
      let above = r.0 x.at (root_at ms as' p x e) in
      by_modes x (start_modes ms as' x.at) (whole x.at) (sym (ap (λ b. cond b m (start_modes ms as' x.at)) (ne_eqb x.at a (λ same. omega (arith, above, same)))))) in
      ap (λ zs. zs ++ begun_places t ms as') here ∙ ap (λ zs. map (derived_place t whole) xs ++ zs) (stands_as ms as' r.1 ∙ later) ∙ sym (map_append (derived_place t whole) xs ys)
    where
      by_modes : (x : Place) (p q : List (Option ℕ)) → p ≡ q → standing_place t p x ≡ standing_place t q x
      by_modes x p q e = ap (λ n. standing_place t n x) e
  stands_as _ _ r = refl

take_front : {A : Type 0} (xs ys : List A) (n : ℕ) → n ≡ length xs → take n (xs ++ ys) ≡ xs
take_front [] ys zero e = refl
take_front (x ∷ xs) ys (suc n) e = ap (λ zs. x ∷ zs) (take_front xs ys n (omega (arith, e)))
take_front _ ys _ e = absurd (omega (arith, e))

module _ (t : Tables) (path : ℕ) (sels : List (List (Option ℕ))) (few : length sels ≤ length (starts t)) (along : IsAlong t path sels) where
  rising : AreRising (starts t)
  rising = starts_rise (root_periods t) (frame_of t)

  as_many : length (begun_places t sels (starts t)) ≡ length (root_places t sels (starts t))
  as_many = ap (λ (xs : List Place). length xs) (stands_as t sels (starts t) rising) ∙ length-map (root_places t sels (starts t)) (derived_place t (start_modes sels (starts t)))

  front : (n : ℕ) → n ≡ length (begun_places t sels (starts t)) → take n (path_places t path) ≡ root_places t sels (starts t)
  front n e = ap (take n) (along_whole t path sels few along) ∙ take_front (root_places t sels (starts t)) _ n (e ∙ as_many)

  pub jobs_along : (n : ℕ) → n ≡ length (begun_jobs t sels) → begun_jobs t sels ≡ derived_jobs t (start_modes sels (starts t)) (take n (path_places t path))
  jobs_along n e =
      let places : begun_places t sels (starts t) ≡ map (derived_place t (start_modes sels (starts t))) (take n (path_places t path)) =
      stands_as t sels (starts t) rising ∙ sym (ap (map (derived_place t (start_modes sels (starts t)))) (front n (e ∙ many))) in
      ap (placed_jobs t) places
    where
      many : length (begun_jobs t sels) ≡ length (begun_places t sels (starts t))
      many = length-map (begun_places t sels (starts t)) (placed_job t (begun_places t sels (starts t)))

-- ---- the legs that the selections reach know no further positions

pub known_none : (a : ℕ) (xs : List Place) → ((p : ℕ) (x : Place) → slice_get xs p ≡ Some x → a < x.at) → known_by a xs ≡ 0
known_none a [] h = refl
known_none a (x ∷ xs) h = omega (arith, ap of_bool (lt-leb x.at a (h 0 x refl)), known_none a xs (λ p y e. h (suc p) y e))

placed_start : (t : Tables) (path : ℕ) (rs : List Round) (p : ℕ) (x : Place) → slice_get (places_in t path rs) p ≡ Some x → (q : ℕ) × (r : Round) × (slice_get rs q ≡ Some r) × (r.at ≡ x.at)
placed_start t path [] p x e = absurd (none-some x e)
placed_start t path (r ∷ rs) p x e = elim (of_joined (places_of r.at (invs_of t (mode_in t path r rs))) (places_in t path rs) p x e) [
  | inl f ↦ let k = from_map (λ (i : ℕ). let y : Place = record { inv = Some i; at = r.at } in y) (invs_of t (mode_in t path r rs)) p x f in (0, r, refl, ap (λ (y : Place). y.at) k.2)
  | inr f ↦ let g = placed_start t path rs f.0 x f.1 in (suc g.0, g.1, g.2, g.3)
]

pub legs_within : (h n k : ℕ) (xs : List Place) (as' : List ℕ) → ((j a : ℕ) → j < k → slice_get as' j ≡ Some a → known_by a xs ≤ n) → AreWithin n (take k (legs_of h xs as'))
legs_within h n (suc k) xs (a ∷ as') l = (l 0 a (omega arith) refl, legs_within h n k xs as' (λ j b less e. l (suc j) b (omega (arith, less)) e))
legs_within h n _ xs _ l = tt

dropped : (k p x : ℕ) (xs : List ℕ) → slice_get (drop k xs) p ≡ Some x → slice_get xs (k + p) ≡ Some x
dropped zero p x xs e = let same : 0 + p ≡ p = omega arith in ap (slice_get xs) same ∙ e
dropped (suc k) p x [] e = absurd (none-some x e)
dropped (suc k) p x (y ∷ xs) e = let next : suc k + p ≡ suc (k + p) = omega arith in ap (slice_get (y ∷ xs)) next ∙ dropped k p x xs e

pub legs_reached : (t : Tables) (path : ℕ) (sels : List (List (Option ℕ))) → length sels ≤ length (starts t) → IsAlong t path sels → (n : ℕ) → n ≡ length (begun_places t sels (starts t)) → AreWithin n (take (length sels) (legs t path))
legs_reached t path sels few along n e =
    let as' = starts t in
    let rise = starts_rise (root_periods t) (frame_of t) in
    let later = places_in t path (flat_map (rounds_at t) (drop (length sels) as')) in
    let front = root_places t sels as' in
    legs_within (frame_of t) n (length sels) (path_places t path) as' (λ j a less at.
    let none : known_by a later ≡ 0 = known_none a later (λ p x f.
    let r = placed_start t path (flat_map (rounds_at t) (drop (length sels) as')) p x f in
    let s = rounds_start t (drop (length sels) as') r.0 r.1 r.2 in
    omega (arith, rising_at as' j (length sels + s.0) a r.1.at rise at (dropped (length sels) s.0 r.1.at as' s.1) (omega (arith, less)), r.3)) in
    omega (arith, ap (known_by a) (along_whole t path sels few along), known_append a front later, known_few a front, none, e, as_many t path sels few along))
