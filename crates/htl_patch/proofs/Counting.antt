-- Lists by their members, counts of functions, and levels.
use Rattle.std.proofs.Common.{◌≡◌, ◌≤◌, ◌<◌, ◌⊎◌, inl, inr, ℕ, zero, suc, ◌+◌, true, List, [], ◌∷◌, ◌++◌, length, map, take, drop, get_or, slice_get, Option, Some, None, All, refl, sym, ◌∙◌, ap, subst, arith}
use Rattle.htl_patch.proofs.Words.{flat_map, IsNonDecreasing, slice_get_within, slice_get-get_or, same_Some, AreApart, Task, place_among, is_within, parent_of, Tables, mode_module, function_count, count_before, level, cases_less_more, from_map, get_mapped}
use Rattle.htl_patch.proofs.Members.{Has, none, of_flat, place_at, place_one, map_map}

-- ---- lists

pub all_from : {A : Type 0} (P : A → Type 0) (xs : List A) → ((x : A) → Has xs x → P x) → All P xs
all_from P xs h k d less = h (get_or xs k d) (k, slice_get-get_or xs k d less)

pub all_map : {A B : Type 0} (P : B → Type 0) (f : A → B) (xs : List A) → ((x : A) → Has xs x → P (f x)) → All P (map f xs)
all_map P f xs h = all_from P (map f xs) (λ y i. (let r = from_map f xs i.0 y i.1 in subst P r.2 (h r.0 (i.0, r.1))))

-- images that differ
pub apart_image : {A B : Type 0} (f : A → B) (xs : List A) → AreApart xs → ((x y : A) → Has xs x → Has xs y → f x ≡ f y → x ≡ y) → AreApart (map f xs)
apart_image f xs apart one j k y less p q =
    let a = from_map f xs j y p in
    let b = from_map f xs k y q in
    let same = one a.0 b.0 (j, a.1) (k, b.1) (a.2 ∙ sym b.2) in
    apart j k b.0 less (a.1 ∙ ap (λ x. Some x) same) b.1

-- where keys differ, two items with one key stand at one place
pub one_key : {A B : Type 0} (key : A → B) (xs : List A) → AreApart (map key xs) → (i j : ℕ) (a b : A) → slice_get xs i ≡ Some a → slice_get xs j ≡ Some b → key a ≡ key b → i ≡ j
one_key key xs apart i j a b p q e =
    let f = get_mapped key xs i a p in
    let g = get_mapped key xs j b q in
    elim (cases_less_more i j) [
      | inl l ↦ absurd (apart i j (key a) l f (g ∙ ap (λ x. Some x) (sym e)))
      | inr r ↦ elim r [ inl l ↦ absurd (apart j i (key a) l (g ∙ ap (λ x. Some x) (sym e)) f) | inr s ↦ s ]
    ]

-- owners along owned items don't fall
pub rising : (own : ℕ → List ℕ) (to : ℕ → ℕ) (k : ℕ) (us : List ℕ) → ((i z m : ℕ) → slice_get us i ≡ Some z → Has (own z) m → to m ≡ k + i)
    → (i j x y : ℕ) → i ≤ j → slice_get (flat_map own us) i ≡ Some x → slice_get (flat_map own us) j ≡ Some y → to x ≤ to y
rising own to k [] tells i j x y less p q = absurd (none x i p)
rising own to k (z ∷ us) tells i j x y less p q =
    by (split (own z) (flat_map own us) i x p) (split (own z) (flat_map own us) j y q) (λ a b l e f. rising own to (suc k) us later a b x y l e f)
  where
    later : (i w m : ℕ) → slice_get us i ≡ Some w → Has (own w) m → to m ≡ suc k + i
    later i w m e h = let r = tells (suc i) w m e h in omega (arith, r)

    split : (xs ys : List ℕ) (i x : ℕ) → slice_get (xs ++ ys) i ≡ Some x → (slice_get xs i ≡ Some x) ⊎ ((j : ℕ) × (i ≡ length xs + j) × (slice_get ys j ≡ Some x))
    split [] ys i x e = inr (i, omega arith, e)
    split (w ∷ xs) ys zero x e = inl e
    split (w ∷ xs) ys (suc i) x e = elim (split xs ys i x e) [ inl a ↦ inl a | inr b ↦ inr (b.0, omega (arith, b.1), b.2) ]

    high : (m : ℕ) → Has (flat_map own us) m → suc k ≤ to m
    high m h = let r = of_flat own us m h in let e = later r.1.0 r.0 m r.1.1 r.2 in omega (arith, e)

    by : (slice_get (own z) i ≡ Some x) ⊎ ((a : ℕ) × (i ≡ length (own z) + a) × (slice_get (flat_map own us) a ≡ Some x))
        → (slice_get (own z) j ≡ Some y) ⊎ ((b : ℕ) × (j ≡ length (own z) + b) × (slice_get (flat_map own us) b ≡ Some y))
        → ((a b : ℕ) → a ≤ b → slice_get (flat_map own us) a ≡ Some x → slice_get (flat_map own us) b ≡ Some y → to x ≤ to y) → to x ≤ to y
    by (inl a) (inl b) next = let e = tells 0 z x refl (i, a) in let f = tells 0 z y refl (j, b) in omega (arith, e, f)
    by (inl a) (inr b) next = let e = tells 0 z x refl (i, a) in let f = high y (b.0, b.2) in omega (arith, e, f)
    by (inr a) (inl b) next = let within = slice_get_within (own z) j y b in absurd (omega (arith, within, less, a.1))
    by (inr a) (inr b) next = next a.0 b.0 (omega (arith, less, a.1, b.1)) a.2 b.2

pub owners_rise : (own : ℕ → List ℕ) (to : ℕ → ℕ) (us : List ℕ) → ((i z m : ℕ) → slice_get us i ≡ Some z → Has (own z) m → to m ≡ i)
    → IsNonDecreasing (map to (flat_map own us))
owners_rise own to us tells i j d less below =
    let items = flat_map own us in
    let owners = map to items in
    let y = from_map to items i (get_or owners i d) (slice_get-get_or owners i d (omega (arith, less, below))) in
    let z = from_map to items j (get_or owners j d) (slice_get-get_or owners j d below) in
    let order = rising own to 0 us (λ i z m e h. (let r = tells i z m e h in omega (arith, r))) i j y.0 z.0 less y.1 z.1 in
    omega (arith, order, y.2, z.2)

-- so the owners of items with new numbers don't fall
pub items_rise : {A : Type 0} (own : A → ℕ) (new : A → A) (at : ℕ → A) (owned : ℕ → List ℕ) (us : List ℕ) → AreApart us
    → ((x : A) → own (new x) ≡ place_among (own x) us) → ((y m : ℕ) → Has (owned y) m → own (at m) ≡ y) → IsNonDecreasing (map own (map (λ (k : ℕ). new (at k)) (flat_map owned us)))
items_rise own new at owned us apart moved owner =
    subst IsNonDecreasing (sym (map_map own (λ (k : ℕ). new (at k)) (flat_map owned us)))
    (owners_rise owned (λ m. own (new (at m))) us (λ i z m e h. moved (at m) ∙ ap (λ (y : ℕ). place_among y us) (owner z m h) ∙ place_at us i z apart e))

-- where keys differ, those of items with new numbers do: each is an owner among the given ones, with something else
pub keys_differ : {A B : Type 0} (key : A → ℕ × B) (new : A → A) (at : ℕ → A) (xs : List A) (us ns : List ℕ) → AreApart ns → AreApart (map key xs)
    → ((x : A) → (key (new x)).0 ≡ place_among (key x).0 us)
    → ((m : ℕ) → Has ns m → (y : ℕ) × Has us y × (x : A) × (slice_get xs m ≡ Some x) × ((key x).0 ≡ y) × (at m ≡ x))
    → ((x y : ℕ) → Has ns x → Has ns y → (key (new (at x))).1 ≡ (key (new (at y))).1 → (key (at x)).1 ≡ (key (at y)).1)
    → AreApart (map key (map (λ (k : ℕ). new (at k)) ns))
keys_differ {A} {B} key new at xs us ns apart keys moved of rest =
    subst AreApart (sym (map_map key (λ (k : ℕ). new (at k)) ns))
    (apart_image (λ (k : ℕ). key (new (at k))) ns apart (λ x y h i e. (
    let place : place_among (key (at x)).0 us ≡ place_among (key (at y)).0 us = sym (moved (at x)) ∙ ap (λ (z : ℕ × B). z.0) e ∙ moved (at y) in
    let owner : (key (at x)).0 ≡ (key (at y)).0 = place_one us (key (at x)).0 (key (at y)).0 (owned x h) (owned y i) place in
    let other : (key (at x)).1 ≡ (key (at y)).1 = rest x y h i (ap (λ (z : ℕ × B). z.1) e) in
    one_key key xs keys x y (at x) (at y) (stands x h) (stands y i) (ap (λ (z : ℕ). (z, (key (at x)).1)) owner ∙ ap (λ (z : B). ((key (at y)).0, z)) other))))
  where
    owned : (m : ℕ) → Has ns m → Has us (key (at m)).0
    owned m h = let r = of m h in subst (Has us) (sym (ap (λ (z : A). (key z).0) r.5 ∙ r.4)) r.1

    stands : (m : ℕ) → Has ns m → slice_get xs m ≡ Some (at m)
    stands m h = let r = of m h in r.3 ∙ ap (λ (z : A). Some z) (sym r.5)

-- ---- functions

abbrev pub total : List Task → ℕ
total [] = 0
total (k ∷ ks) = function_count k + total ks

pub count_shift : (n : ℕ) (k : Task) (ks : List Task) → count_before (suc n) (k ∷ ks) ≡ function_count k + count_before n ks
count_shift zero k ks = omega arith
count_shift (suc n) k ks = let e = count_shift n k ks in omega (arith, e)

pub count_total : (ks : List Task) → count_before (length ks) ks ≡ total ks
count_total [] = refl
count_total (k ∷ ks) = let a = count_shift (length ks) k ks in let b = count_total ks in omega (arith, a, b)

-- those of one task end before those of all
pub count_within : (ks : List Task) (n : ℕ) (k : Task) → slice_get ks n ≡ Some k → count_before n ks + function_count k ≤ count_before (length ks) ks
count_within [] n k e = absurd (none k n e)
count_within (x ∷ ks) zero k e =
    let a = count_shift (length ks) x ks in
    let same : function_count x ≡ function_count k = ap function_count (same_Some x k e) in
    omega (arith, a, same)
count_within (x ∷ ks) (suc n) k e =
    let a = count_shift (length ks) x ks in
    let b = count_shift n x ks in
    let c = count_within ks n k e in
    omega (arith, a, b, c)

pub take_length : {A : Type 0} (n m : ℕ) (xs : List A) → m + n ≤ length xs → length (take n (drop m xs)) ≡ n
take_length zero m xs h = nothing (drop m xs)
  where
    nothing : {A : Type 0} (xs : List A) → length (take 0 xs) ≡ 0
    nothing [] = refl
    nothing (x ∷ xs) = refl
take_length (suc n) zero [] h = absurd (omega (arith, h))
take_length (suc n) zero (x ∷ xs) h = let e = take_length n 0 xs (omega (arith, h)) in omega (arith, e)
take_length (suc n) (suc m) [] h = absurd (omega (arith, h))
take_length (suc n) (suc m) (x ∷ xs) h = take_length (suc n) m xs (omega (arith, h))

pub has_take : {A : Type 0} (n : ℕ) (xs : List A) (x : A) → Has (take n xs) x → Has xs x
has_take zero [] x h = absurd (none x h.0 h.1)
has_take zero (y ∷ ys) x h = absurd (none x h.0 h.1)
has_take (suc n) [] x h = absurd (none x h.0 h.1)
has_take (suc n) (y ∷ ys) x (zero, e) = (0, e)
has_take (suc n) (y ∷ ys) x (suc j, e) = let r = has_take n ys x (j, e) in (suc r.0, r.1)

pub has_drop : {A : Type 0} (n : ℕ) (xs : List A) (x : A) → Has (drop n xs) x → Has xs x
has_drop zero xs x h = h
has_drop (suc n) [] x h = absurd (none x h.0 h.1)
has_drop (suc n) (y ∷ ys) x h = let r = has_drop n ys x h in (suc r.0, r.1)

-- ---- levels

pub within : (t : Tables) (s n u : ℕ) → s < n → level n t u ≤ suc s → is_within s t (parent_of t u) ≡ true
within t s zero u less h = absurd (omega (arith, less))
within t s (suc n) u less h = by s (parent_of t u) less h (λ r p l m. within t r n p l m)
  where
    by : (s : ℕ) (o : Option ℕ) → s < suc n → elim o as (λ _. ℕ) [ Some p ↦ suc (level n t (mode_module t p)) | None ↦ 1 ] ≤ suc s
        → ((r p : ℕ) → r < n → level n t p ≤ suc r → is_within r t (parent_of t p) ≡ true) → is_within s t o ≡ true
    by zero None less h next = refl
    by (suc s) None less h next = refl
    by zero (Some p) less h next = let one = some n (mode_module t p) in absurd (omega (arith, h, one))
      where
        some : (n u : ℕ) → 1 ≤ level n t u
        some zero u = omega arith
        some (suc n) u = by_parent (parent_of t u)
          where
            by_parent : (o : Option ℕ) → 1 ≤ elim o as (λ _. ℕ) [ Some p ↦ suc (level n t (mode_module t p)) | None ↦ 1 ]
            by_parent None = omega arith
            by_parent (Some p) = omega arith
    by (suc s) (Some p) less h next = next s (mode_module t p) (omega (arith, less)) (omega (arith, h))
