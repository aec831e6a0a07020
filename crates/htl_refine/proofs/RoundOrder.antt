-- The starts, rounds and positions of a frame are in order.
use Rattle.std.proofs.Common.{◌≡◌, ◌<◌, ◌≤◌, ◌⊎◌, ℕ, zero, suc, ◌+◌, ◌%◌, Bool, true, false, cond, eqb, leb, List, [], ◌∷◌, ◌++◌, map, slice_get, Option, Some, refl, sym, ◌∙◌, ap, subst, arith, inl, inr}
use Rattle.htl_refine.proofs.Words.{flat_map, eqb-true, le-leb, leb-true, leb-false, Place, Round, unit_period, root_periods, frame_of, begins, starts_below, starts, rounds_of, rounds_at, rounds, places_of, known_by, of_bool, places_from, is_root, root_modules, Tables, running_invs, derived_place, place, running_places, frame_places, from_map, same_Some}
use Rattle.htl_refine.proofs.{AlongPath.known_none, BegunTimes.start_below, Members.of_joined, Members.of_flat, Members.of_places, RecordOrder.not_some}

-- ---- lists in order

unfoldable pub Sorted : {A : Type 0} → (A → A → Type 0) → List A → Type 0
Sorted R [] = Unit {0}
Sorted {A} R (x ∷ xs) = ((q : ℕ) (y : A) → slice_get xs q ≡ Some y → R x y) × Sorted R xs

pub sorted_at : {A : Type 0} (R : A → A → Type 0) (xs : List A) (p q : ℕ) (x y : A) → Sorted R xs → p < q → slice_get xs p ≡ Some x → slice_get xs q ≡ Some y → R x y
unfolding Sorted
sorted_at R [] p q x y s l a b = not_some x a
sorted_at R (z ∷ zs) p zero x y s l a b = absurd (omega arith)
sorted_at R (z ∷ zs) zero (suc q) x y s l a b = subst (λ w. R w y) (same_Some z x a) (s.0 q y b)
sorted_at R (z ∷ zs) (suc p) (suc q) x y s l a b = sorted_at R zs p q x y s.1 (omega arith) a b

pub sorted_join : {A : Type 0} (R : A → A → Type 0) (xs ys : List A) → Sorted R xs → Sorted R ys → ((i j : ℕ) (x y : A) → slice_get xs i ≡ Some x → slice_get ys j ≡ Some y → R x y)
    → Sorted R (xs ++ ys)
unfolding Sorted
sorted_join R [] ys a b c = b
sorted_join {A} R (x ∷ xs) ys a b c = (λ q y e. by q y (of_joined xs ys q y e), sorted_join R xs ys a.1 b (λ i j u v f g. c (suc i) j u v f g))
  where
    by : (q : ℕ) (y : A) → (slice_get xs q ≡ Some y) ⊎ ((r : ℕ) × (slice_get ys r ≡ Some y)) → R x y
    by q y (inl g) = a.0 q y g
    by q y (inr g) = c 0 g.0 x y refl g.1

sorted_flat : {X A : Type 0} (f : X → List A) (S : X → X → Type 0) (R : A → A → Type 0) (xs : List X) → Sorted S xs → ((j : ℕ) (x : X) → slice_get xs j ≡ Some x → Sorted R (f x))
    → ((x y : X) → S x y → (i j : ℕ) (a b : A) → slice_get (f x) i ≡ Some a → slice_get (f y) j ≡ Some b → R a b) → Sorted R (flat_map f xs)
unfolding Sorted
sorted_flat f S R [] s e c = tt
sorted_flat f S R (x ∷ xs) s e c =
    sorted_join R (f x) (flat_map f xs) (e 0 x refl) (sorted_flat f S R xs s.1 (λ j y g. e (suc j) y g) c) (λ i j a b g h. let m = of_flat f xs j b h in c x m.1 (s.0 m.0 m.1 m.2) i m.3 a b g m.4)

unfoldable pub Less : ℕ → ℕ → Type 0
Less a b = a < b

pub sorted_places : {A : Type 0} (test : A → Bool) (k : ℕ) (xs : List A) → Sorted Less (places_from test k xs)
unfolding Sorted Less
sorted_places test k [] = tt
sorted_places test k (x ∷ xs) = by (test x) (places_from test (suc k) xs) (sorted_places test (suc k) xs) (λ q y e. let m = of_places test (suc k) xs q y e in omega (arith, m.2))
  where
    by : (b : Bool) (rest : List ℕ) → Sorted Less rest → ((q y : ℕ) → slice_get rest q ≡ Some y → k < y) → Sorted Less (cond b (k ∷ rest) rest)
    by true rest s l = (l, s)
    by false rest s l = s

-- ---- what the lists hold

pub of_rounds : (t : Tables) (a : ℕ) (us : List ℕ) (q : ℕ) (r : Round) → slice_get (rounds_of t a us) q ≡ Some r → (j : ℕ) × (slice_get us j ≡ Some r.unit) × (r.at ≡ a) × (a % unit_period t r.unit ≡ 0)
of_rounds t a [] q r e = not_some r e
of_rounds t a (u ∷ us) q r e = by (eqb (a % unit_period t u) 0) refl q e (λ i g. of_rounds t a us i r g)
  where
    by : (b : Bool) → eqb (a % unit_period t u) 0 ≡ b → (q : ℕ) → slice_get (cond b (record { at = a; unit = u } ∷ rounds_of t a us) (rounds_of t a us)) q ≡ Some r
        → ((i : ℕ) → slice_get (rounds_of t a us) i ≡ Some r → (j : ℕ) × (slice_get us j ≡ Some r.unit) × (r.at ≡ a) × (a % unit_period t r.unit ≡ 0))
        → (j : ℕ) × (slice_get (u ∷ us) j ≡ Some r.unit) × (r.at ≡ a) × (a % unit_period t r.unit ≡ 0)
    by true f zero g ih = grind (arith, same_Some, eqb-true)
    by true f (suc i) g ih = let m = ih i g in (suc m.0, m.1, m.2, m.3)
    by false f i g ih = let m = ih i g in (suc m.0, m.1, m.2, m.3)

pub round_of : (t : Tables) (q : ℕ) (r : Round) → slice_get (rounds t) q ≡ Some r → (j : ℕ) × (slice_get (root_modules t) j ≡ Some r.unit) × (r.at % unit_period t r.unit ≡ 0)
round_of t q r e = grind (arith, of_flat, of_rounds)

pub run_of : (t : Tables) (modes : ℕ → List (Option ℕ)) (rs : List Round) (p : ℕ) (x : Place) → slice_get (running_places t modes rs) p ≡ Some x
    → (q : ℕ) × (r : Round) × (slice_get rs q ≡ Some r) × (j k : ℕ) × (slice_get (running_invs t (modes r.at) r.unit) j ≡ Some k) × (x ≡ place k r.at)
run_of t modes [] p x e = not_some x e
run_of t modes (r ∷ rs) p x e = by (of_joined (places_of r.at (running_invs t (modes r.at) r.unit)) (running_places t modes rs) p x e) (λ i g. run_of t modes rs i x g)
  where
    by : (slice_get (places_of r.at (running_invs t (modes r.at) r.unit)) p ≡ Some x) ⊎ ((i : ℕ) × (slice_get (running_places t modes rs) i ≡ Some x))
        → ((i : ℕ) → slice_get (running_places t modes rs) i ≡ Some x → (q : ℕ) × (s : Round) × (slice_get rs q ≡ Some s) × (j k : ℕ) × (slice_get (running_invs t (modes s.at) s.unit) j ≡ Some k) × (x ≡ place k s.at))
        → (q : ℕ) × (s : Round) × (slice_get (r ∷ rs) q ≡ Some s) × (j k : ℕ) × (slice_get (running_invs t (modes s.at) s.unit) j ≡ Some k) × (x ≡ place k s.at)
    by (inl g) ih = let m = from_map (λ k. place k r.at) (running_invs t (modes r.at) r.unit) p x g in (0, r, refl, p, m.0, m.1, sym m.2)
    by (inr g) ih = let m = ih g.0 g.1 in (suc m.0, m.1, m.2, m.3, m.4, m.5, m.6)

-- ---- starts and rounds

sorted_starts : (ps : List ℕ) (h : ℕ) → Sorted Less (starts_below ps h)
unfolding Sorted Less
sorted_starts ps zero = tt
sorted_starts ps (suc h) =
    sorted_join Less (starts_below ps h) (cond (begins ps h) (h ∷ []) []) (sorted_starts ps h) (one (begins ps h))
    (λ i j x y g k. let before : x < h = start_below ps h i x g in let is : y ≡ h = is_it (begins ps h) j y k in omega (arith, before, is))
  where
    one : (b : Bool) → Sorted Less (cond b (h ∷ []) [])
    one true = (λ q y e. not_some y e, tt)
    one false = tt

    is_it : (b : Bool) (j y : ℕ) → slice_get (cond b (h ∷ []) []) j ≡ Some y → y ≡ h
    is_it true zero y e = sym (same_Some h y e)
    is_it _ _ y e = not_some y e

unfoldable pub RoundLess : Round → Round → Type 0
RoundLess r s = (r.at < s.at) ⊎ ((r.at ≡ s.at) × (r.unit < s.unit))

sorted_rounds_at : (t : Tables) (a : ℕ) (us : List ℕ) → Sorted Less us → Sorted RoundLess (rounds_of t a us)
unfolding Sorted Less RoundLess
sorted_rounds_at t a [] s = tt
sorted_rounds_at t a (u ∷ us) s =
    by (eqb (a % unit_period t u) 0) (sorted_rounds_at t a us s.1) (λ q r e. let m = of_rounds t a us q r e in inr (sym m.2, s.0 m.0 r.unit m.1))
  where
    by : (b : Bool) → Sorted RoundLess (rounds_of t a us) → ((q : ℕ) (r : Round) → slice_get (rounds_of t a us) q ≡ Some r → RoundLess (record { at = a; unit = u }) r)
        → Sorted RoundLess (cond b (record { at = a; unit = u } ∷ rounds_of t a us) (rounds_of t a us))
    by true s l = (l, s)
    by false s l = s

pub sorted_rounds : (t : Tables) → Sorted RoundLess (rounds t)
unfolding Less RoundLess
sorted_rounds t =
    sorted_flat (rounds_at t) Less RoundLess (starts t) (sorted_starts (root_periods t) (frame_of t)) (λ j a e. sorted_rounds_at t a (root_modules t) (sorted_places is_root 0 t.modules))
    (λ a b l i j r s g h.
    inl (omega (arith, l, (of_rounds t a (root_modules t) i r g).2, (of_rounds t b (root_modules t) j s h).2)))

-- ---- positions by their rounds' starts

unfoldable pub ByStart : Place → Place → Type 0
ByStart x y = x.at ≤ y.at

pub least_first : (r s : Round) → RoundLess r s → r.at ≤ s.at
unfolding RoundLess
least_first r s (inl l) = omega (arith, l)
least_first r s (inr l) = omega (arith, l.0)

-- those of one round
block_at : (a : ℕ) (ks : List ℕ) (q : ℕ) (y : Place) → slice_get (places_of a ks) q ≡ Some y → a ≡ y.at
block_at a ks q y e = ap (λ (w : Place). w.at) (from_map (λ k. place k a) ks q y e).2

block_by_start : (a : ℕ) (ks : List ℕ) → Sorted ByStart (places_of a ks)
unfolding Sorted ByStart
block_by_start a [] = tt
block_by_start a (k ∷ ks) = (λ q y e. omega (arith, block_at a ks q y e), block_by_start a ks)

running_by_start : (t : Tables) (modes : ℕ → List (Option ℕ)) (rs : List Round) → Sorted RoundLess rs → Sorted ByStart (running_places t modes rs)
unfolding Sorted ByStart
running_by_start t modes [] s = tt
running_by_start t modes (r ∷ rs) s =
    let ks = running_invs t (modes r.at) r.unit in
    sorted_join ByStart (places_of r.at ks) (running_places t modes rs) (block_by_start r.at ks) (running_by_start t modes rs s.1)
    (λ i j x y g k.
    let w = run_of t modes rs j y k in
    omega (arith, least_first r w.1 (s.0 w.0 w.1 w.2), ap (λ (z : Place). z.at) w.6, block_at r.at ks i x g))

pub frame_by_start : (t : Tables) (modes : ℕ → List (Option ℕ)) → Sorted ByStart (frame_places t modes)
frame_by_start t modes = running_by_start t modes (rounds t) (sorted_rounds t)

-- what stands at positions begins with them
pub standing_by_start : (t : Tables) (modes : ℕ → List (Option ℕ)) (xs : List Place) → Sorted ByStart xs → Sorted ByStart (map (derived_place t modes) xs)
unfolding Sorted ByStart
standing_by_start t modes [] s = tt
standing_by_start t modes (x ∷ xs) s = grind (arith, from_map, standing_by_start t modes xs s.1)

-- ---- those that have begun

pub begun_known : (d : ℕ) (xs : List Place) (p : ℕ) (x : Place) → Sorted ByStart xs → slice_get xs p ≡ Some x → x.at ≤ d → p < known_by d xs
unfolding Sorted ByStart
begun_known d [] p x s e l = not_some x e
begun_known d (z ∷ zs) zero x s e l = let is : z.at ≡ x.at = ap (λ (w : Place). w.at) (same_Some z x e) in rw (le-leb z.at d (omega (arith, is, l))) (omega arith)
begun_known d (z ∷ zs) (suc p) x s e l = let first : z.at ≤ x.at = s.0 p x e in rw (le-leb z.at d (omega (arith, first, l))) (omega (arith, begun_known d zs p x s.1 e l))

pub known_begun : (d : ℕ) (xs : List Place) (p : ℕ) (x : Place) → Sorted ByStart xs → slice_get xs p ≡ Some x → p < known_by d xs → x.at ≤ d
unfolding Sorted ByStart
known_begun d [] p x s e l = not_some x e
known_begun d (z ∷ zs) p x s e l =
    by (leb z.at d) refl p e l (λ q g r. known_begun d zs q x s.1 g r) (λ late. known_none d zs (λ q y g. let first : z.at ≤ y.at = s.0 q y g in omega (arith, first, late)))
  where
    by : (b : Bool) → leb z.at d ≡ b → (p : ℕ) → slice_get (z ∷ zs) p ≡ Some x → p < of_bool b + known_by d zs → ((q : ℕ) → slice_get zs q ≡ Some x → q < known_by d zs → x.at ≤ d)
        → (d < z.at → known_by d zs ≡ 0) → x.at ≤ d
    by true f zero g r ih none = let is : z.at ≡ x.at = ap (λ (w : Place). w.at) (same_Some z x g) in omega (arith, is, leb-true z.at d f)
    by true f (suc q) g r ih none = ih q g (omega (arith, r))
    by false f q g r ih none = absurd (omega (arith, r, none (leb-false z.at d f)))

pub known_same : (t : Tables) (modes : ℕ → List (Option ℕ)) (d : ℕ) (xs : List Place) → known_by d (map (derived_place t modes) xs) ≡ known_by d xs
known_same t modes d [] = refl
known_same t modes d (x ∷ xs) = ap (λ n. of_bool (leb x.at d) + n) (known_same t modes d xs)
