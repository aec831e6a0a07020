-- Lists: different numbers and how many a switch reads, values by places, items in pairs, items that pass a test.
use Rattle.std.proofs.Common.{◌<◌, ◌≡◌, inl, inr, ℕ, zero, suc, Bool, true, cond, ◌||◌, eqb, List, [], ◌∷◌, ◌++◌, slice_get, Some, fold, refl, sym, ◌∙◌, ap, ap₂, subst, eq-eqb, eqb-true, ◌≤◌, map, length, arith, ◌+◌, max, Option, IsSomeAnd, flat_map, count_by, bytes_eq}
use Rattle.htl_names.proofs.Words.{AllZip-left, AllZip, list_any, nat_tests, length-from_keys, or_cases, cond_both, list_any-append, flat_map-map, MatchOption-at_some, slice_get_within, get_or_from_slice_get, none-some, same_Some, length-le_from_distinct_below, sum_by-cons, AreApart, list_to, places_from, greatest, names_of, Expr, PlainProgram, PlainMode, most_invokes, get_mapped, Id, flat_map_at, with_new, distinct, place_in, layout, meaning, comms_in, Layout, read_place, comm_key, Key, or-false, distinct_count, nat_eq_equiv, IsDistinct-push, apart_from_distinct, any_passes_from_place, bytes_eq-Decides, from_map}
use Rattle.std.specs.List.{IsDistinct}
use Rattle.htl_names.proofs.{Members.In, FlatMaps.flat_map_is, FlatMaps.flat_map_parts}

abbrev pub is_among : List ℕ → ℕ → Bool
is_among xs x = list_any (eqb x) xs

pub any_end : {A : Type 0} (p : A → Bool) (xs : List A) (x : A) → list_any p (xs ++ x ∷ []) ≡ (list_any p xs || p x)
any_end p xs x = list_any-append p xs (x ∷ []) ∙ ap (λ b. list_any p xs || b) (or-false (p x))

-- ---- the different numbers of a list

-- they are its numbers
pub distinct_has : (q : ℕ) (acc xs : List ℕ) → is_among (fold with_new acc xs) q ≡ (is_among acc q || is_among xs q)
distinct_has q acc [] = sym (or-false _)
distinct_has q acc (x ∷ xs) =
    let rest = distinct_has q (with_new acc x) xs in
    let more = any_end (eqb q) acc x in
    grind (arith, nat_tests)

all_distinct : (acc xs : List ℕ) → IsDistinct eqb acc → IsDistinct eqb (fold with_new acc xs)
all_distinct acc [] d = d
all_distinct acc (x ∷ xs) d =
    all_distinct (with_new acc x) xs
    (cond_both (is_among acc x) acc (acc ++ x ∷ []) (λ ys. IsDistinct eqb ys) (λ old. d) (λ new. IsDistinct-push nat_eq_equiv acc x d new))

-- each stands once
pub distinct_once : (xs : List ℕ) → IsDistinct eqb (distinct xs)
unfolding IsDistinct
distinct_once xs = all_distinct [] xs tt

pub distinct_apart : (xs : List ℕ) → IsDistinct eqb xs → AreApart xs
distinct_apart xs d j k y less p q =
    let differ = apart_from_distinct eqb xs j k y d less (slice_get_within xs k y q) in
    let same = eq-eqb _ _ (get_or_from_slice_get xs j y y p ∙ sym (get_or_from_slice_get xs k y y q)) in
    absurd cc

pub among_at : (xs : List ℕ) (k x : ℕ) → slice_get xs k ≡ Some x → is_among xs x ≡ true
among_at xs k x e = any_passes_from_place (eqb x) xs k x e (eq-eqb x x refl)

pub among_place : (xs : List ℕ) (x : ℕ) → is_among xs x ≡ true → In x xs
among_place [] x h = absurd cc
among_place (y ∷ xs) x h = elim (or_cases (eqb x y) _ h) [ inl is ↦ (0, ap Some (sym (eqb-true x y is))) | inr later ↦ let at = among_place xs x later in (suc at.0, at.1) ]

-- ---- a condition reads no more communicators than it has names

met : (g : List ℕ → ℕ) (n : List ℕ) (ids : List Id) → list_any (bytes_eq n) (map (λ (id : Id). id.name) ids) ≡ true → is_among (map (λ (id : Id). g id.name) ids) (g n) ≡ true
met g n [] h = absurd cc
met g n (id ∷ ids) h = let later = met g n ids in let same = (bytes_eq-Decides n id.name).0 in grind (arith, nat_tests)

few_by : (g : List ℕ → ℕ) (ids : List Id) → distinct_count eqb (map (λ (id : Id). g id.name) ids) ≤ distinct_count bytes_eq (map (λ (id : Id). id.name) ids)
few_by g [] = omega arith
few_by g (id ∷ ids) = let rest = few_by g ids in let again = met g id.name ids in grind arith

pub few_reads : (ps : List PlainProgram) (e : Expr) → length (comms_in (layout ps) e) ≤ distinct_count bytes_eq (map (λ (id : Id). id.name) (names_of e))
few_reads ps e =
    let g : List ℕ → ℕ = λ n. meaning (layout ps) (comm_key n) in
    let numbers = map (λ (id : Id). g id.name) (names_of e) in
    omega (arith, few_by g (names_of e), length-from_keys nat_eq_equiv (comms_in (layout ps) e) numbers (distinct_once numbers) (λ q. distinct_has q [] numbers))

-- ---- they are few, where they are below a bound

-- the place of an item is not behind the list's end
place_in-le : {A : Type 0} (p : A → Bool) (xs : List A) → place_in p xs ≤ length xs
place_in-le p [] = omega arith
place_in-le p (x ∷ xs) = let rest = place_in-le p xs in grind arith

-- where one passes, the first that does stands there
pub place_within : {A : Type 0} (p : A → Bool) (xs : List A) → list_any p xs ≡ true → place_in p xs < length xs
place_within p [] h = absurd cc
place_within p (x ∷ xs) h = let rest = place_within p xs in grind (arith, nat_tests)

-- a communicator that is read is what a name means
pub read_of : (l : Layout) (e : Expr) (q : ℕ) → is_among (comms_in l e) q ≡ true → (id : Id) × In id (names_of e) × (meaning l (comm_key id.name) ≡ q)
read_of l e q h =
    let f : Id → ℕ = λ id. meaning l (comm_key id.name) in
    let at = among_place (map f (names_of e)) q (sym (distinct_has q [] (map f (names_of e))) ∙ h) in
    let id = from_map f (names_of e) at.0 q at.1 in
    (id.0, (at.0, id.1), id.2)

-- so is the place of each
pub read_place-le : (l : Layout) → ((key : Key) → meaning l key ≤ 4096) → (e : Expr) (id : Id) → read_place l (comms_in l e) id ≤ 4097
read_place-le l low e id =
    let reads = comms_in l e in
    let few = length-le_from_distinct_below reads 4097 (distinct_once (map (λ (id : Id). meaning l (comm_key id.name)) (names_of e))) (λ q h.
    let id = read_of l e q h in omega (arith, low (comm_key id.0.name), id.2)) in
    omega (arith, place_in-le (eqb (meaning l (comm_key id.name))) reads, few)

-- ---- lists by places

pub flat_map_flat_map : {A B C : Type 0} (f : B → List C) (g : A → List B) (xs : List A) → flat_map f (flat_map g xs) ≡ flat_map (λ x. flat_map f (g x)) xs
flat_map_flat_map f g xs = ap (flat_map f) (sym (flat_map_is g 0 xs)) ∙ flat_map_parts f (λ k. g) (λ x. flat_map f (g x)) (λ k x. refl) 0 xs

list_to_front : {A : Type 0} (f : ℕ → A) (n : ℕ) → list_to f (suc n) ≡ f 0 ∷ list_to (λ k. f (suc k)) n
list_to_front f zero = refl
list_to_front f (suc n) = ap (λ l. l ++ f (suc n) ∷ []) (list_to_front f n)

-- the values at the places of a list, and those of its items
pub map_places : {A B C : Type 0} (h : A → C) (f : ℕ → A) (e : B → C) (zs : List B) → ((k : ℕ) (z : B) → slice_get zs k ≡ Some z → h (f k) ≡ e z)
    → map h (list_to f (length zs)) ≡ map e zs
map_places h f e [] same = refl
map_places h f e (z ∷ zs) same = ap (map h) (list_to_front f (length zs)) ∙ ap₂ (λ w ws. w ∷ ws) (same 0 z refl) (map_places h (λ k. f (suc k)) e zs (λ k y s. same (suc k) y s))

-- what is written for each place of a list, and what for each item
pub flat_map_places : {A B C : Type 0} (h : A → List C) (f : ℕ → A) (e : B → List C) (zs : List B) → ((k : ℕ) (z : B) → slice_get zs k ≡ Some z → h (f k) ≡ e z)
    → flat_map h (list_to f (length zs)) ≡ flat_map e zs
flat_map_places h f e zs same =
    sym (flat_map-map (λ ys. ys) h (list_to f (length zs))) ∙ ap (flat_map (λ ys. ys)) (map_places h f e zs same) ∙ flat_map-map (λ ys. ys) e zs

pub greatest_start : (d : ℕ) (xs : List ℕ) → d ≤ greatest d xs
greatest_start d [] = omega arith
greatest_start d (x ∷ xs) = let h = greatest_start (max d x) xs in omega (arith, h)

-- the greatest is at least each
pub greatest_at : (d x : ℕ) (xs : List ℕ) (k : ℕ) → slice_get xs k ≡ Some x → x ≤ greatest d xs
greatest_at d x [] k e = absurd (none-some x e)
greatest_at d x (y ∷ xs) zero e = let h = greatest_start (max d y) xs in omega (arith, h, same_Some y x e)
greatest_at d x (y ∷ xs) (suc k) e = greatest_at (max d y) x xs k e

pub invokes_most : (xs : List PlainMode) (k : ℕ) (x : PlainMode) → slice_get xs k ≡ Some x → length x.invokes ≤ most_invokes xs
invokes_most xs k x e = greatest_at 0 (length x.invokes) (map (λ (z : PlainMode). length z.invokes) xs) k (get_mapped (λ (z : PlainMode). length z.invokes) xs k x e)

-- ---- lists of one length, item by item

module _ {A B : Type 0} (R : A → B → Type 0) where
  pub zip_append : (xs : List A) (ys : List B) (us : List A) (vs : List B) → AllZip R xs ys → AllZip R us vs → AllZip R (xs ++ us) (ys ++ vs)
  zip_append [] [] us vs h k = k
  zip_append (x ∷ xs) (y ∷ ys) us vs h k = (h.0, zip_append xs ys us vs h.1 k)
  zip_append _ _ us vs h k = absurd h

  pub zip_map : {X : Type 0} (f : X → A) (g : X → B) (xs : List X) → ((k : ℕ) (x : X) → slice_get xs k ≡ Some x → R (f x) (g x)) → AllZip R (map f xs) (map g xs)
  zip_map f g [] h = tt
  zip_map f g (x ∷ xs) h = (h 0 x refl, zip_map f g xs (λ k y e. h (suc k) y e))

  pub zip_parts : {X : Type 0} (f : X → List A) (g : ℕ → X → List B) (k : ℕ) (xs : List X) → ((i j : ℕ) (x : X) → i ≡ k + j → slice_get xs j ≡ Some x → AllZip R (f x) (g i x))
      → AllZip R (flat_map f xs) (flat_map_at g k xs)
  zip_parts f g k [] h = tt
  zip_parts f g k (x ∷ xs) h =
      zip_append (f x) (g k x) (flat_map f xs) (flat_map_at g (suc k) xs) (h k 0 x (omega arith) refl) (zip_parts f g (suc k) xs (λ i j y is e. h i (suc j) y (omega (arith, is)) e))

  pub zip_at : (xs : List A) (ys : List B) (k : ℕ) (x : A) (y : B) → AllZip R xs ys → slice_get xs k ≡ Some x → slice_get ys k ≡ Some y → R x y
  zip_at xs ys k x y h e f =
      subst (λ (o : Option B). IsSomeAnd o (R x)) f (MatchOption-at_some (Unit {0}) (λ x. IsSomeAnd (slice_get ys k) (R x)) x e (AllZip-left R xs ys h k))

-- ---- where the items that pass a test stand, and how many there are

pub length-places : {A : Type 0} (test : A → Bool) (k : ℕ) (xs : List A) → length (places_from test k xs) ≡ count_by test xs
length-places test k [] = refl
length-places test k (x ∷ xs) =
    let rest = length-places test (suc k) xs in
    let first = sum_by-cons (λ y. cond (test y) 1 0) x xs in
    grind arith
