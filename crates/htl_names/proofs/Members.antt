-- Lists: what holds of each item, and which items there are.
use Rattle.std.proofs.Common.{◌≡◌, ℕ, zero, suc, ◌+◌, ◌<◌, List, [], ◌∷◌, ◌++◌, map, slice_get, Some, All, refl, sym, ◌∙◌, ap, subst, arith, length, get_or, flat_map}
use Rattle.htl_names.proofs.Words.{All-nil, All-cons, none-some, same_Some, slice_get-get_or, flat_map_single, get_mapped, flat_map_at, map_at, all_at, from_map, get_back, get_front}
use Rattle.htl_names.proofs.FlatMaps.{at_part, at_flat, part_of, given, flat_map_parts}

-- P holds of each item
abbrev pub Each : {A : Type 0} → (A → Type 0) → List A → Type 0
Each P [] = Unit {0}
Each P (x ∷ xs) = P x × Each P xs

-- y is an item
abbrev pub In : {A : Type 0} → A → List A → Type 0
In y xs = (k : ℕ) × (slice_get xs k ≡ Some y)

-- ---- an item of a part is an item of the whole

pub in_next : {A : Type 0} {y : A} (x : A) (xs : List A) → In y xs → In y (x ∷ xs)
in_next x xs h = (suc h.0, h.1)

pub in_first : {A : Type 0} {y : A} (xs ys : List A) → In y xs → In y (xs ++ ys)
in_first xs ys h = (h.0, get_front xs ys h.0 _ h.1)

pub in_second : {A : Type 0} {y : A} (xs ys : List A) → In y ys → In y (xs ++ ys)
in_second xs ys h = (length xs + h.0, get_back xs ys h.0 ∙ h.1)

pub in_mapped : {A B : Type 0} (f : B → A) (xs : List B) (k : ℕ) (x : B) → slice_get xs k ≡ Some x → In (f x) (map f xs)
in_mapped f xs k x there = (k, get_mapped f xs k x there)

pub in_mapped_at : {A B : Type 0} (f : ℕ → B → A) (k : ℕ) (xs : List B) (i j : ℕ) (x : B) → i ≡ k + j → slice_get xs j ≡ Some x → In (f i x) (map_at f k xs)
in_mapped_at f k [] i j x is there = absurd (none-some x there)
in_mapped_at f k (y ∷ xs) i zero x is there =
    let same : k ≡ i = omega (arith, is) in
    (0, ap (λ z. Some (f k z)) (same_Some y x there) ∙ ap (λ (n : ℕ). Some (f n x)) same)
in_mapped_at f k (y ∷ xs) i (suc j) x is there = in_next _ _ (in_mapped_at f (suc k) xs i j x (omega (arith, is)) there)

pub in_part : {A B : Type 0} {y : A} (f : B → List A) (xs : List B) (i : ℕ) (x : B) → slice_get xs i ≡ Some x → In y (f x) → In y (flat_map f xs)
in_part {y = y} f xs i x there h = (_, at_flat f xs i h.0 x y there h.1)

pub in_part_at : {A B : Type 0} {y : A} (f : ℕ → B → List A) (xs : List B) (i : ℕ) (x : B) → slice_get xs i ≡ Some x → In y (f i x) → In y (flat_map_at f 0 xs)
in_part_at {y = y} f xs i x there h = (_, at_part f xs i h.0 x y there h.1)

pub at_place : {B : Type 0} (xs : List B) (i j : ℕ) (x : B) → i ≡ 0 + j → slice_get xs j ≡ Some x → slice_get xs i ≡ Some x
at_place xs i j x is there = let same : i ≡ j = omega (arith, is) in ap (slice_get xs) same ∙ there

-- ---- each item

module _ {A : Type 0} (P : A → Type 0) where
  pub each_append : (xs ys : List A) → Each P xs → Each P ys → Each P (xs ++ ys)
  each_append [] ys p q = q
  each_append (x ∷ xs) ys p q = (p.0, each_append xs ys p.1 q)

  pub each_at : (xs : List A) (k : ℕ) (x : A) → Each P xs → slice_get xs k ≡ Some x → P x
  each_at [] k x h e = absurd (none-some x e)
  each_at (y ∷ xs) zero x h e = subst P (same_Some y x e) h.0
  each_at (y ∷ xs) (suc k) x h e = each_at xs k x h.1 e

  pub each_all : (xs : List A) → Each P xs → All P xs
  each_all [] h = All-nil P
  each_all (x ∷ xs) h = All-cons P x xs h.0 (each_all xs h.1)

  pub each_always : (xs : List A) → ((x : A) → P x) → Each P xs
  each_always [] h = tt
  each_always (x ∷ xs) h = (h x, each_always xs h)

  pub each_flat_map : {B : Type 0} (f : B → List A) (xs : List B) → Each (λ x. Each P (f x)) xs → Each P (flat_map f xs)
  each_flat_map f [] h = tt
  each_flat_map f (x ∷ xs) h = each_append (f x) (flat_map f xs) h.0 (each_flat_map f xs h.1)

  pub each_flat_map_at : {B : Type 0} (f : ℕ → B → List A) (k : ℕ) (xs : List B)
      → ((i j : ℕ) (x : B) → i ≡ k + j → slice_get xs j ≡ Some x → Each P (f i x)) → Each P (flat_map_at f k xs)
  each_flat_map_at f k [] h = tt
  each_flat_map_at f k (x ∷ xs) h =
      each_append (f k x) (flat_map_at f (suc k) xs) (h k 0 x (omega arith) refl)
      (each_flat_map_at f (suc k) xs (λ i j y e s. h i (suc j) y (omega (arith, e)) s))

  -- of each part, numbered from 0
  pub each_part : {B : Type 0} (f : ℕ → B → List A) (xs : List B) → ((i : ℕ) (x : B) → slice_get xs i ≡ Some x → Each P (f i x)) → Each P (flat_map_at f 0 xs)
  each_part f xs h = each_flat_map_at f 0 xs (λ i j x is there. h i x (at_place xs i j x is there))

pub each_weaker : {A : Type 0} (P Q : A → Type 0) → ((x : A) → P x → Q x) → (xs : List A) → Each P xs → Each Q xs
each_weaker P Q f [] h = tt
each_weaker P Q f (x ∷ xs) h = (f x h.0, each_weaker P Q f xs h.1)

-- what holds at each place holds of each item
pub All-from_places : {A : Type 0} (P : A → Type 0) (xs : List A) → ((k : ℕ) (x : A) → slice_get xs k ≡ Some x → P x) → All P xs
All-from_places P xs h k d below = h k _ (slice_get-get_or xs k d below)

-- what holds of the item of each node of each owner holds of each item
pub all_given : {A N B : Type 0} (P : B → Type 0) (item : ℕ → A → N → B) (nodes : A → List N) (xs : List A)
    → ((k : ℕ) (x : A) (j : ℕ) (n : N) → slice_get xs k ≡ Some x → slice_get (nodes x) j ≡ Some n → P (item k x n)) → All P (flat_map_at (given item nodes) 0 xs)
all_given P item nodes xs h =
    All-from_places P (flat_map_at (given item nodes) 0 xs) (λ i y e.
    let p = part_of (given item nodes) xs i y e in
    let n = from_map (item p.part p.owner) (nodes p.owner) p.place y p.item in
    subst P n.2 (h p.part p.owner p.place n.0 p.there n.1))

-- ---- maps

pub map_flat_map_at : {A B C : Type 0} (h : B → C) (f : ℕ → A → List B) (g : A → List C) → ((k : ℕ) (x : A) → map h (f k x) ≡ g x)
    → (k : ℕ) (xs : List A) → map h (flat_map_at f k xs) ≡ flat_map g xs
map_flat_map_at h f g e k xs =
    sym (flat_map_single h (flat_map_at f k xs)) ∙ flat_map_parts (λ y. h y ∷ []) f g (λ i x. flat_map_single h (f i x) ∙ e i x) k xs

-- ---- what holds of each item, at one of them

-- of one of the lists that are joined
pub all_part : {X Y : Type 0} (P : Y → Type 0) (f : X → List Y) (xs : List X) (k : ℕ) (x : X) → k < length xs → All P (flat_map f xs)
    → All P (f (get_or xs k x))
all_part P f xs k x below all =
    All-from_places P (f (get_or xs k x)) (λ j y e. all_at P (flat_map f xs) _ y all (at_flat f xs k j (get_or xs k x) y (slice_get-get_or xs k x below) e))
