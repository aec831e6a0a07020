-- Plain facts of lists by place: fronts and backs, items, maps.
use Rattle.std.proofs.Common.{All, Bool, List, None, Option, Some, [], ap, append_assoc, ap₂, arith, drop, false, get_or, inl, inr, length, map, refl, replicate, slice_get, subst, suc, sym, take, take-append-drop, take-take, true, zero, ℕ, ◌++◌, ◌+◌, ◌<◌, ◌∙◌, ◌∷◌, ◌≡◌, ◌≤◌, ◌⊎◌}
use Rattle.std.proofs.{lemmas.Bool.cases_lt, lemmas.List.get_or_past, lemmas.List.Folds.Any-from_list_any, lemmas.Option.get_or_from_slice_get, lemmas.Option.slice_get-get_or, lemmas.Option.slice_get-map, lemmas.Option.slice_get_within}
use Rattle.std.specs.{Io.KnownBytes.prepend_known, List.list_any, Prelude.option_map, Prelude.slice_get}

pub all_at : {A : Type 0} (P : A → Type 0) (xs : List A) (k : ℕ) (x : A) → All P xs → slice_get xs k ≡ Some x → P x
all_at P xs k x all at = subst P (get_or_from_slice_get xs k x x at) (all k x (slice_get_within xs k x at))

pub all_zero : (n i : ℕ) → ◌≡◌ {A = ℕ} (get_or (replicate n 0) i 0) 0
all_zero zero i = refl
all_zero (suc n) zero = refl
all_zero (suc n) (suc i) = all_zero n i

pub each_at : {A : Type 0} (P : A → Type 0) (xs : List A) → All P xs → (k : ℕ) (x : A) → slice_get xs k ≡ Some x → P x
each_at P xs all k x e = subst P (get_or_from_slice_get xs k x x e) (all k x (slice_get_within xs k x e))

pub from_map : {A B : Type 0} (f : A → B) (xs : List A) (k : ℕ) (y : B) → slice_get (map f xs) k ≡ Some y → (x : A) × (slice_get xs k ≡ Some x) × (f x ≡ y)
from_map f [] k y e = absurd cc
from_map f (x ∷ xs) zero y e = (x, refl, cc)
from_map f (x ∷ xs) (suc k) y e = from_map f xs k y e

pub from_take : {A : Type 0} (xs : List A) (j place : ℕ) (e : A) → slice_get (take j xs) place ≡ Some e → (place < j) × (slice_get xs place ≡ Some e)
from_take xs zero place e h = cc
from_take [] (suc j) place e h = cc
from_take (x ∷ xs) (suc j) zero e h = (omega arith, h)
from_take (x ∷ xs) (suc j) (suc place) e h = let r = from_take xs j place e h in (omega (arith, r.0), r.1)

pub front_more : {A : Type 0} (n m : ℕ) (xs : List A) → n ≤ m → take n xs ++ drop n (take m xs) ≡ take m xs
front_more n m xs l = ap (λ ys. ys ++ drop n (take m xs)) (sym (take-take n m xs l)) ∙ take-append-drop n (take m xs)

pub get_back : {A : Type 0} (xs ys : List A) (k : ℕ) → slice_get (xs ++ ys) (length xs + k) ≡ slice_get ys k
get_back [] ys k = ap (slice_get ys) (let e : 0 + k ≡ k = omega arith in e)
get_back (x ∷ xs) ys k = ap (slice_get (x ∷ (xs ++ ys))) (let e : suc (length xs) + k ≡ suc (length xs + k) = omega arith in e) ∙ get_back xs ys k

pub get_either : {A : Type 0} (xs ys : List A) (n : ℕ) (r : A) → slice_get (xs ++ ys) n ≡ Some r → (slice_get xs n ≡ Some r) ⊎ ((m : ℕ) × (n ≡ length xs + m) × (slice_get ys m ≡ Some r))
get_either [] ys n r e = inr (n, omega arith, e)
get_either (x ∷ xs) ys zero r e = inl e
get_either (x ∷ xs) ys (suc n) r e = elim (get_either xs ys n r e) [ inl h ↦ inl h | inr h ↦ inr (h.0, omega (arith, h.1), h.2) ]

pub get_front : {A : Type 0} (xs ys : List A) (k : ℕ) (x : A) → slice_get xs k ≡ Some x → slice_get (xs ++ ys) k ≡ Some x
get_front [] ys k x e = cc
get_front (y ∷ xs) ys zero x e = e
get_front (y ∷ xs) ys (suc k) x e = get_front xs ys k x e

pub get_mapped : {A B : Type 0} (f : A → B) (xs : List A) (p : ℕ) (x : A) → slice_get xs p ≡ Some x → slice_get (map f xs) p ≡ Some (f x)
get_mapped f xs p x e = slice_get-map f xs p ∙ ap (option_map f) e

pub get_or_mapped : (g : ℕ → ℕ) (xs : List ℕ) (q : ℕ) → q < length xs → get_or (map g xs) q 0 ≡ g (get_or xs q 0)
get_or_mapped g [] q h = absurd (omega arith)
get_or_mapped g (x ∷ xs) zero h = refl
get_or_mapped g (x ∷ xs) (suc q) h = get_or_mapped g xs q (omega arith)

pub get_taken : (n : ℕ) (xs : List ℕ) (p : ℕ) → p < n → get_or (take n xs) p 0 ≡ get_or xs p 0
get_taken zero xs p l = absurd (omega (arith, l))
get_taken (suc n) [] p l = refl
get_taken (suc n) (x ∷ xs) zero l = refl
get_taken (suc n) (x ∷ xs) (suc p) l = get_taken n xs p (omega (arith, l))

pub into_back : {A : Type 0} (xs ys : List A) (m : ℕ) (r : A) → slice_get ys m ≡ Some r → slice_get (xs ++ ys) (length xs + m) ≡ Some r
into_back [] ys m r e = ap (slice_get ys) (let z : 0 + m ≡ m = omega arith in z) ∙ e
into_back (x ∷ xs) ys m r e = ap (slice_get (x ∷ xs ++ ys)) (let z : suc (length xs) + m ≡ suc (length xs + m) = omega arith in z) ∙ into_back xs ys m r e

pub into_take : {A : Type 0} (xs : List A) (j place : ℕ) (e : A) → place < j → slice_get xs place ≡ Some e → slice_get (take j xs) place ≡ Some e
into_take xs zero place e less h = absurd (omega arith)
into_take [] (suc j) place e less h = cc
into_take (x ∷ xs) (suc j) zero e less h = h
into_take (x ∷ xs) (suc j) (suc place) e less h = into_take xs j place e (omega arith) h

pub item_at : {A : Type 0} (xs : List A) (k : ℕ) → k < length xs → (x : A) × (slice_get xs k ≡ Some x)
item_at [] k h = absurd (omega (arith, h))
item_at (x ∷ xs) zero h = (x, refl)
item_at (x ∷ xs) (suc k) h = item_at xs k (omega (arith, h))

pub length_mapped : {A B : Type 0} (f : A → B) (xs : List A) → length (map f xs) ≡ length xs
length_mapped f [] = refl
length_mapped f (x ∷ xs) = ap suc (length_mapped f xs)

pub map_same : {A B : Type 0} (f g : A → B) (xs : List A) → ((n : ℕ) (x : A) → slice_get xs n ≡ Some x → f x ≡ g x) → map f xs ≡ map g xs
map_same f g [] h = refl
map_same f g (x ∷ xs) h = ap₂ (λ a b. a ∷ b) (h 0 x refl) (map_same f g xs (λ n y at. h (suc n) y at))

pub marked_within : (bs : List Bool) (q : ℕ) → get_or bs q false ≡ true → q < length bs
marked_within bs q e = elim (cases_lt q (length bs)) [ inl l ↦ l | inr l ↦ absurd (let no : false ≡ true = sym (get_or_past bs q false l) ∙ e in cc) ]

pub none_marked : (n i : ℕ) → get_or (replicate n false) i false ≡ false
none_marked zero i = refl
none_marked (suc n) zero = refl
none_marked (suc n) (suc i) = none_marked n i

pub nothing_ends : (front : List ℕ) (b : ℕ) → [] ≡ front ++ b ∷ [] → ⊥
nothing_ends [] b e = cc
nothing_ends (x ∷ xs) b e = cc

pub prepend_known-append : (known : Option (List ℕ)) (xs ys : List ℕ) → prepend_known (xs ++ ys) known ≡ prepend_known xs (prepend_known ys known)
prepend_known-append None xs ys = refl
prepend_known-append (Some zs) xs ys = ap Some (append_assoc xs ys zs)

pub prepend_known-nil : (known : Option (List ℕ)) → prepend_known [] known ≡ known
prepend_known-nil None = refl
prepend_known-nil (Some xs) = refl

pub some_place : {X : Type 0} (p : X → Bool) (xs : List X) → list_any p xs ≡ true → (k : ℕ) × (x : X) × (slice_get xs k ≡ Some x) × (p x ≡ true)
some_place p xs h = let a = Any-from_list_any p xs h in (a.0, a.1, slice_get-get_or xs a.0 a.1 a.2 ∙ ap (λ x. Some x) a.3, a.4)

pub take_all : {A : Type 0} (xs : List A) → take (length xs) xs ≡ xs
take_all [] = refl
take_all (x ∷ xs) = ap (λ ys. x ∷ ys) (take_all xs)

pub take_front : {A : Type 0} (k : ℕ) (xs ys : List A) → k ≤ length xs → take k (xs ++ ys) ≡ take k xs
take_front zero xs ys l = refl
take_front (suc k) [] ys l = absurd (omega arith)
take_front (suc k) (x ∷ xs) ys l = ap (λ zs. x ∷ zs) (take_front k xs ys (omega (arith, l)))

pub within_front : {A : Type 0} (xs ys : List A) (k : ℕ) → k < length xs → slice_get (xs ++ ys) k ≡ slice_get xs k
within_front [] ys k h = absurd (omega arith)
within_front (x ∷ xs) ys zero h = refl
within_front (x ∷ xs) ys (suc k) h = within_front xs ys k (omega arith)
