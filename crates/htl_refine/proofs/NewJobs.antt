-- The jobs of a frame, start by start: those that begin at one are those that new rounds give.
use Rattle.std.proofs.Common.{append_assoc, ◌≡◌, ℕ, zero, suc, ◌+◌, ◌-◌, ◌%◌, ◌≤◌, ◌<◌, Bool, true, false, cond, eqb, leb, List, [], ◌∷◌, ◌++◌, length, map, drop, take, get_or, replicate, Option, Some, None, refl, sym, ◌∙◌, ap, ap₂, subst, arith, append-nil}
use Rattle.htl_refine.proofs.Words.{slice_get, flat_map, le-leb, length-append, length-map, length-drop, length-replicate, map-append, Place, Round, root_periods, unit_period, frame_of, starts, rounds_of, rounds_at, places_of, known_by, of_bool, entry, root_modules, invs_of, Tables, Job, placed, placed_job, placed_jobs, starts_rise, nowhere, new_places, new_jobs, derived_place, begun_mode, round_places, start_places, standing_place, running_places, frame_places, frame_jobs, known_append, starts_order}
use Rattle.htl_refine.proofs.{AlongPath.known_none, ListsFollow.rises_next, RecordOrder.not_some, RoundOrder.known_same, MiddleJobs.flat_split, MiddleJobs.flat_next, MiddleJobs.middle_jobs}

-- ---- what stands, start by start

module _ (t : Tables) (modes : ℕ → List (Option ℕ)) where
  -- at the positions of the rounds that begin at a
  abbrev pub stand : ℕ → List Place
  stand a = map (standing_place t (modes a)) (start_places t (modes a) a (root_modules t))

  running_both : (rs ss : List Round) → running_places t modes (rs ++ ss) ≡ running_places t modes rs ++ running_places t modes ss
  running_both [] ss = refl
  running_both (r ∷ rs) ss = grind (arith, append_assoc, running_both rs ss)

  running_at : (a : ℕ) (us : List ℕ) → running_places t modes (rounds_of t a us) ≡ start_places t (modes a) a us
  running_at a [] = refl
  running_at a (u ∷ us) = grind (arith, running_at a us)

  stand_round : (a : ℕ) (ks : List ℕ) → map (derived_place t modes) (places_of a ks) ≡ map (standing_place t (modes a)) (places_of a ks)
  stand_round a [] = refl
  stand_round a (k ∷ ks) = ap (λ zs. standing_place t (modes a) (record { inv = Some k; at = a }) ∷ zs) (stand_round a ks)

  stand_at : (a : ℕ) (us : List ℕ) → map (derived_place t modes) (start_places t (modes a) a us) ≡ map (standing_place t (modes a)) (start_places t (modes a) a us)
  stand_at a [] = refl
  stand_at a (u ∷ us) =
      map-append (derived_place t modes) (round_places t (modes a) a u) (start_places t (modes a) a us)
      ∙ ap₂ (λ xs ys. xs ++ ys) (by (begun_mode t (modes a) a u)) (stand_at a us)
      ∙ sym (map-append (standing_place t (modes a)) (round_places t (modes a) a u) (start_places t (modes a) a us))
    where
      by : (o : Option ℕ) → map (derived_place t modes) (elim o as (λ _. List Place) [ Some m ↦ places_of a (invs_of t m) | None ↦ [] ])
          ≡ map (standing_place t (modes a)) (elim o as (λ _. List Place) [ Some m ↦ places_of a (invs_of t m) | None ↦ [] ])
      by None = refl
      by (Some m) = stand_round a (invs_of t m)

  stand_all : (from : List ℕ) → map (derived_place t modes) (running_places t modes (flat_map (rounds_at t) from)) ≡ flat_map stand from
  stand_all [] = refl
  stand_all (a ∷ from) =
      ap (map (derived_place t modes)) (running_both (rounds_at t a) (flat_map (rounds_at t) from))
      ∙ map-append (derived_place t modes) (running_places t modes (rounds_at t a)) (running_places t modes (flat_map (rounds_at t) from))
      ∙ ap₂ (λ xs ys. xs ++ ys) (ap (map (derived_place t modes)) (running_at a (root_modules t)) ∙ stand_at a (root_modules t)) (stand_all from)

  -- each stands in a round that begins there
  in_round : (a : ℕ) (us : List ℕ) (q : ℕ) (y : Place) → slice_get (map (standing_place t (modes a)) (start_places t (modes a) a us)) q ≡ Some y → y.at ≡ a
  in_round a us q y e = of_map (start_places t (modes a) a us) q y (all us) e
    where
      of_map : (ps : List Place) (q : ℕ) (y : Place) → ((i : ℕ) (x : Place) → slice_get ps i ≡ Some x → x.at ≡ a) → slice_get (map (standing_place t (modes a)) ps) q ≡ Some y → y.at ≡ a
      of_map [] q y h e = not_some y e
      of_map (p ∷ ps) zero y h e = let same : standing_place t (modes a) p ≡ y = cc in sym (ap (λ (z : Place). z.at) same) ∙ h 0 p refl
      of_map (p ∷ ps) (suc q) y h e = of_map ps q y (λ i x f. h (suc i) x f) e

      in_both : (xs ys : List Place) → ((i : ℕ) (x : Place) → slice_get xs i ≡ Some x → x.at ≡ a) → ((i : ℕ) (x : Place) → slice_get ys i ≡ Some x → x.at ≡ a) → (i : ℕ) (x : Place) → slice_get (xs ++ ys) i ≡ Some x → x.at ≡ a
      in_both [] ys h g i x e = g i x e
      in_both (z ∷ xs) ys h g zero x e = h 0 x e
      in_both (z ∷ xs) ys h g (suc i) x e = in_both xs ys (λ j w f. h (suc j) w f) g i x e

      of_places : (ks : List ℕ) (i : ℕ) (x : Place) → slice_get (places_of a ks) i ≡ Some x → x.at ≡ a
      of_places [] i x e = not_some x e
      of_places (k ∷ ks) zero x e = let same : record { inv = Some k; at = a } ≡ x = cc in sym (ap (λ (z : Place). z.at) same)
      of_places (k ∷ ks) (suc i) x e = of_places ks i x e

      of_mode : (o : Option ℕ) (i : ℕ) (x : Place) → slice_get (elim o as (λ _. List Place) [ Some m ↦ places_of a (invs_of t m) | None ↦ [] ]) i ≡ Some x → x.at ≡ a
      of_mode None i x e = not_some x e
      of_mode (Some m) i x e = of_places (invs_of t m) i x e

      all : (us : List ℕ) (i : ℕ) (x : Place) → slice_get (start_places t (modes a) a us) i ≡ Some x → x.at ≡ a
      all [] i x e = not_some x e
      all (u ∷ us) i x e = in_both (round_places t (modes a) a u) (start_places t (modes a) a us) (of_mode (begun_mode t (modes a) a u)) (all us) i x e

  in_rounds : (from : List ℕ) (q : ℕ) (y : Place) → slice_get (flat_map stand from) q ≡ Some y → (i : ℕ) × (i < length from) × (y.at ≡ get_or from i 0)
  in_rounds [] q y e = not_some y e
  in_rounds (a ∷ from) q y e = by (stand a) (λ i x f. in_round a (root_modules t) i x f) q e (λ k f. in_rounds from k y f)
    where
      by : (ps : List Place) → ((i : ℕ) (x : Place) → slice_get ps i ≡ Some x → x.at ≡ a) → (q : ℕ) → slice_get (ps ++ flat_map stand from) q ≡ Some y
          → ((k : ℕ) → slice_get (flat_map stand from) k ≡ Some y → (i : ℕ) × (i < length from) × (y.at ≡ get_or from i 0)) → (i : ℕ) × (i < length (a ∷ from)) × (y.at ≡ get_or (a ∷ from) i 0)
      by [] h q e ih = let r = ih q e in (suc r.0, omega (arith, r.1), r.2)
      by (p ∷ ps) h zero e ih = (0, omega arith, h 0 y e)
      by (p ∷ ps) h (suc q) e ih = by ps (λ i x f. h (suc i) x f) q e ih

  -- ---- how many have begun

  begun_all : (d : ℕ) (ys : List Place) → ((q : ℕ) (y : Place) → slice_get ys q ≡ Some y → y.at ≤ d) → known_by d ys ≡ length ys
  begun_all d [] h = refl
  begun_all d (y ∷ ys) h = let bit : of_bool (leb y.at d) ≡ 1 = ap of_bool (le-leb y.at d (h 0 y refl)) in let rest = begun_all d ys (λ q z e. h (suc q) z e) in omega (arith, bit, rest)

  begun_by : (from : List ℕ) (j : ℕ) → j < length from → ((i k : ℕ) → i < k → k < length from → get_or from i 0 < get_or from k 0) → known_by (get_or from j 0) (flat_map stand from) ≡ length (flat_map stand (take (suc j) from))
  begun_by [] j l up = absurd (omega (arith, l))
  begun_by (a ∷ from) zero l up =
      let mine = begun_all a (stand a) (λ q y e. let z = in_round a (root_modules t) q y e in omega (arith, z)) in
      let rest = known_none a (flat_map stand from) (λ q y e. let r = in_rounds from q y e in let z = up 0 (suc r.0) (omega arith) (omega (arith, r.1)) in omega (arith, z, r.2)) in
      omega (arith, known_append a (stand a) (flat_map stand from), mine, rest, ap (λ (zs : List Place). length zs) (append-nil (stand a)))
  begun_by (a ∷ from) (suc j) l up =
      let d = get_or from j 0 in
      let mine = begun_all d (stand a) (λ q y e. let z = in_round a (root_modules t) q y e in let w = up 0 (suc j) (omega arith) l in omega (arith, z, w)) in
      let rest = begun_by from j (omega (arith, l)) (λ i k less m. up (suc i) (suc k) (omega (arith, less)) (omega (arith, m))) in
      omega (arith, known_append d (stand a) (flat_map stand from), mine, rest, length-append (stand a) (flat_map stand (take (suc j) from)))

  -- ---- of the frame

  up : (i k : ℕ) → i < k → k < length (starts t) → get_or (starts t) i 0 < get_or (starts t) k 0
  up i zero less l = absurd (omega (arith, less))
  up i (suc k) less l =
      let rise = starts_rise (root_periods t) (frame_of t) in
      let a = starts_order (root_periods t) (frame_of t) (starts t) i k rise (omega (arith, less)) (omega (arith, l)) in
      omega (arith, a, rises_next (root_periods t) (frame_of t) (starts t) k rise l)

  known_starts : (j : ℕ) → j < length (starts t) → known_by (get_or (starts t) j 0) (frame_places t modes) ≡ length (flat_map stand (take (suc j) (starts t)))
  known_starts j l =
      sym (known_same t modes (get_or (starts t) j 0) (frame_places t modes)) ∙ ap (known_by (get_or (starts t) j 0)) (stand_all (starts t)) ∙ begun_by (starts t) j l up

  at_start : (i : ℕ) → i < length (starts t) → (let a = get_or (starts t) i 0 in let n = length (flat_map stand (take i (starts t))) in drop n (take (known_by a (frame_places t modes)) (frame_jobs t modes)) ≡ new_jobs t (modes a) a n)
  at_start i l =
      let from = starts t in
      let a = get_or from i 0 in
      let xs = flat_map stand (take i from) in
      let many : known_by a (frame_places t modes) ≡ length xs + length (stand a) =
      known_starts i l ∙ ap (λ (zs : List Place). length zs) (flat_next stand from i l) ∙ length-append xs (stand a) in
      ap₂ (λ m js. drop (length xs) (take m js)) many (ap (placed_jobs t) (stand_all from ∙ flat_split stand from i l))
      ∙ middle_jobs t xs (stand a) (flat_map stand (drop (suc i) from)) a
      (λ q y e. let r = in_rounds (take i from) q y e in let z = before from i r.0 (omega (arith, r.1)) l in let w = up r.0 i z.0 l in omega (arith, r.2, z.1, w))
      (λ q y e. let r = in_rounds (drop (suc i) from) q y e in let z = behind from (suc i) r.0 r.1 in let w = up i (suc i + r.0) (omega arith) z.0 in omega (arith, r.2, z.1, w))
      (λ q y e. in_round a (root_modules t) q y e)
    where
      before : (from : List ℕ) (i k : ℕ) → k < length (take i from) → i < length from → (k < i) × (get_or (take i from) k 0 ≡ get_or from k 0)
      before [] i k less l = absurd (omega (arith, l))
      before (x ∷ from) zero k less l = absurd (omega (arith, less))
      before (x ∷ from) (suc i) zero less l = (omega arith, refl)
      before (x ∷ from) (suc i) (suc k) less l = let r = before from i k (omega (arith, less)) (omega (arith, l)) in (omega (arith, r.0), r.1)

      behind : (from : List ℕ) (i k : ℕ) → k < length (drop i from) → (i + k < length from) × (get_or (drop i from) k 0 ≡ get_or from (i + k) 0)
      behind from zero k less = (omega (arith, less), ap (λ z. get_or from z 0) (let e : k ≡ 0 + k = omega arith in e))
      behind [] (suc i) k less = absurd (omega (arith, less))
      behind (x ∷ from) (suc i) k less =
          let r = behind from i k less in (omega (arith, r.0), r.1 ∙ ap (λ z. get_or (x ∷ from) z 0) (let e : suc (i + k) ≡ suc i + k = omega arith in e))

  -- the jobs of the first list, and those that are new in a later one
  pub first_jobs : 0 < length (starts t) → take (known_by (get_or (starts t) 0 0) (frame_places t modes)) (frame_jobs t modes) ≡ new_jobs t (modes (get_or (starts t) 0 0)) (get_or (starts t) 0 0) 0
  first_jobs l = at_start 0 l

  pub next_jobs : (j : ℕ) → suc j < length (starts t)
      → (let a = get_or (starts t) (suc j) 0 in let n = known_by (get_or (starts t) j 0) (frame_places t modes) in drop n (take (known_by a (frame_places t modes)) (frame_jobs t modes)) ≡ new_jobs t (modes a) a n)
  next_jobs j l =
      let a = get_or (starts t) (suc j) 0 in
      subst (λ n. drop n (take (known_by a (frame_places t modes)) (frame_jobs t modes)) ≡ new_jobs t (modes a) a n) (sym (known_starts j (omega (arith, l)))) (at_start (suc j) l)

-- ---- as they are written

none_yet : (n m : ℕ) → n ≤ m → take n (replicate m nowhere) ≡ replicate n nowhere
none_yet zero m l = refl
none_yet (suc n) zero l = absurd (omega (arith, l))
none_yet (suc n) (suc m) l = ap (λ xs. nowhere ∷ xs) (none_yet n m (omega (arith, l)))

pub places_are : (t : Tables) (m ms : List (Option ℕ)) (a n end : ℕ) (us : List ℕ) (out : List Place) → n ≤ 128 → take end out ≡ take n (replicate 128 nowhere) ++ map (standing_place t ms) (start_places t ms a us) → ms ≡ m → us ≡ root_modules t → take end out ≡ new_places t m a n
places_are t m ms a n end us out l front modes roots =
    front ∙ ap (λ xs. xs ++ map (standing_place t ms) (start_places t ms a us)) (none_yet n 128 l)
    ∙ ap₂ (λ z vs. replicate n nowhere ++ map (standing_place t z) (start_places t z a vs)) modes roots

-- the new ones are written behind those before
pub jobs_are : (t : Tables) (m : List (Option ℕ)) (a n end : ℕ) (xs : List Place) (jobs rest : List Job) → n ≤ end → xs ≡ new_places t m a n → take end jobs ≡ placed_jobs t xs → rest ≡ take (end - n) (drop n jobs) → rest ≡ new_jobs t m a n
jobs_are t m a n end xs jobs rest l is placed at = at ∙ sym (front n end jobs l) ∙ ap (drop n) (placed ∙ ap (placed_jobs t) is)
  where
    front : {A : Type 0} (n m : ℕ) (xs : List A) → n ≤ m → drop n (take m xs) ≡ take (m - n) (drop n xs)
    front zero m xs l = ap (λ k. take k xs) (let e : m ≡ m - 0 = omega arith in e)
    front (suc n) zero xs l = absurd (omega (arith, l))
    front (suc n) (suc m) [] l = sym (none (suc m - suc n))
      where
        none : {A : Type 0} (k : ℕ) → take {A = A} k [] ≡ []
        none zero = refl
        none (suc k) = refl
    front (suc n) (suc m) (x ∷ xs) l = front n m xs (omega (arith, l)) ∙ ap (λ k. take k (drop n xs)) (let e : m - n ≡ suc m - suc n = omega arith in e)

pub new_many : (t : Tables) (m : List (Option ℕ)) (a n : ℕ) → n + length (new_jobs t m a n) ≡ length (new_places t m a n)
new_many t m a n =
    let ys = map (standing_place t m) (start_places t m a (root_modules t)) in
    let zs = new_places t m a n in
    let size : length zs ≡ n + length ys = length-append (replicate n nowhere) ys ∙ ap (λ k. k + length ys) (length-replicate n nowhere) in
    omega (arith, size, length-drop n (placed_jobs t zs), length-map zs (placed_job t zs))

pub end_is : (t : Tables) (m ms : List (Option ℕ)) (a n end : ℕ) (us : List ℕ) → end ≡ n + length (start_places t ms a us) → ms ≡ m → us ≡ root_modules t → end ≡ length (new_places t m a n)
end_is t m ms a n end us count modes roots =
    let ys = map (standing_place t m) (start_places t m a (root_modules t)) in
    let same : length (start_places t ms a us) ≡ length (start_places t m a (root_modules t)) = ap₂ (λ z vs. length (start_places t z a vs)) modes roots in
    omega (arith, count, same, length-map (start_places t m a (root_modules t)) (standing_place t m), length-append (replicate n nowhere) ys, length-replicate n nowhere)
