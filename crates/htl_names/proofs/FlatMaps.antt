-- Where the items of lists and of their parts stand, and whose they are.
use Rattle.std.proofs.Common.{◌≡◌, ℕ, zero, suc, ◌+◌, ◌<◌, ◌≤◌, inl, inr, List, [], ◌∷◌, ◌++◌, length, take, slice_get, Some, refl, sym, ◌∙◌, ap, ap₂, subst, arith, length-append, take-append-drop, get_or, map, cond, Bool, eqb, leb, flat_map, count_by}
use Rattle.htl_names.proofs.Words.{length-map, slice_get_within, same_Some, none-some, slice_get-get_or, flat_map-append, cases_lt, nat_tests, sum_by-cons, sum_by-append, list_to, length-list_to, get_list_to, get_mapped, flat_map_at, IsNonDecreasing, from_map, get_back, get_either, get_front}

-- ---- lists by places

pub list_to_at : {A : Type 0} (f : ℕ → A) (n k : ℕ) → k < n → slice_get (list_to f n) k ≡ Some (f k)
list_to_at f n k less = let size = length-list_to f n in slice_get-get_or (list_to f n) k (f k) (omega (arith, less, size)) ∙ ap (λ y. Some y) (get_list_to f n k (f k) less)

-- an item of a list by places is the value there
pub of_list_to : {A : Type 0} (f : ℕ → A) (n k : ℕ) (y : A) → slice_get (list_to f n) k ≡ Some y → (k < n) × (f k ≡ y)
of_list_to f n k y e =
    let less : k < n = omega (arith, length-list_to f n, slice_get_within (list_to f n) k y e) in
    (less, same_Some (f k) y (sym (list_to_at f n k less) ∙ e))

-- ---- the parts of a list

-- the places counted from one more
shift : {A B : Type 0} (f : ℕ → A → List B) (k : ℕ) (xs : List A) → flat_map_at f (suc k) xs ≡ flat_map_at (λ i. f (suc i)) k xs
shift f k [] = refl
shift f k (x ∷ xs) = ap (λ ys. f (suc k) x ++ ys) (shift f (suc k) xs)

-- item j of part i stands behind the parts before
pub at_part : {A B : Type 0} (f : ℕ → A → List B) (xs : List A) (i j : ℕ) (x : A) (y : B) → slice_get xs i ≡ Some x → slice_get (f i x) j ≡ Some y
    → slice_get (flat_map_at f 0 xs) (length (flat_map_at f 0 (take i xs)) + j) ≡ Some y
at_part f [] i j x y e g = absurd (none-some x e)
at_part f (z ∷ xs) zero j x y e g =
    let place : 0 + j ≡ j = omega arith in
    ap (slice_get (f 0 z ++ flat_map_at f 1 xs)) place ∙ get_front (f 0 z) (flat_map_at f 1 xs) j y (ap (λ w. slice_get (f 0 w) j) (same_Some z x e) ∙ g)
at_part f (z ∷ xs) (suc i) j x y e g =
    let n = length (flat_map_at (λ i. f (suc i)) 0 (take i xs)) + j in
    let place : length (f 0 z ++ flat_map_at f 1 (take i xs)) + j ≡ length (f 0 z) + n = omega (arith, length-append (f 0 z) (flat_map_at f 1 (take i xs)), ap length (shift f 0 (take i xs))) in
    ap (slice_get (f 0 z ++ flat_map_at f 1 xs)) place ∙ get_back (f 0 z) (flat_map_at f 1 xs) n ∙ ap (λ ys. slice_get ys n) (shift f 0 xs)
    ∙ at_part (λ i. f (suc i)) xs i j x y e g

-- a part stands before the later ones
part_before : {A B : Type 0} (f : ℕ → A → List B) (xs : List A) (i j : ℕ) (x : A) → i < j → slice_get xs i ≡ Some x
    → length (flat_map_at f 0 (take i xs)) + length (f i x) ≤ length (flat_map_at f 0 (take j xs))
part_before f [] i j x less there = absurd (none-some x there)
part_before f (z ∷ xs) i zero x less there = absurd (omega (arith, less))
part_before f (z ∷ xs) zero (suc j) x less there =
    omega (arith, ap (λ w. length (f 0 w)) (same_Some z x there), length-append (f 0 z) (flat_map_at f 1 (take j xs)))
part_before f (z ∷ xs) (suc i) (suc j) x less there =
    let later = part_before (λ i. f (suc i)) xs i j x (omega (arith, less)) there in
    omega (arith, later, length-append (f 0 z) (flat_map_at f 1 (take i xs)), length-append (f 0 z) (flat_map_at f 1 (take j xs)), ap length (shift f 0 (take i xs)), ap length (shift f 0 (take j xs)))

-- a place is in one part
pub same_part : {A B : Type 0} (f : ℕ → A → List B) (xs : List A) (i j m n : ℕ) (x y : A) → slice_get xs i ≡ Some x → slice_get xs j ≡ Some y → m < length (f i x) → n < length (f j y)
    → length (flat_map_at f 0 (take i xs)) + m ≡ length (flat_map_at f 0 (take j xs)) + n → i ≡ j
same_part f xs i j m n x y a b p q same =
    let one = λ (less : i < j). part_before f xs i j x less a in
    let two = λ (less : j < i). part_before f xs j i y less b in
    grind arith

-- where an item stands: in which part, at which place of it, and behind how many items
pub record Part {A B : Type 0} (f : ℕ → A → List B) (before : ℕ → ℕ) (xs : List A) (n : ℕ) (y : B) : Type 0 where
  pub part : ℕ
  pub owner : A
  pub there : slice_get xs part ≡ Some owner
  pub place : ℕ
  pub item : slice_get (f part owner) place ≡ Some y
  pub number : n ≡ before part + place

pub part_of : {A B : Type 0} (f : ℕ → A → List B) (xs : List A) (n : ℕ) (y : B) → slice_get (flat_map_at f 0 xs) n ≡ Some y → Part f (λ i. length (flat_map_at f 0 (take i xs))) xs n y
part_of f [] n y e = absurd cc
part_of f (z ∷ xs) n y e =
    elim (get_either (f 0 z) (flat_map_at f 1 xs) n y e) [
      | inl own ↦ record { part = 0; owner = z; there = refl; place = n; item = own; number = omega arith }
      | inr b ↦
          let p = part_of (λ i. f (suc i)) xs b.0 y (ap (λ ys. slice_get ys b.0) (sym (shift f 0 xs)) ∙ b.2) in
          record {
            part = suc p.part;
            owner = p.owner;
            there = p.there;
            place = p.place;
            item = p.item;
            number = omega (arith, b.1, p.number, length-append (f 0 z) (flat_map_at f 1 (take p.part xs)), ap length (shift f 0 (take p.part xs)));
          }
    ]

-- ---- lengths

-- parts that are as long as those of another list
pub same_length : {A B C : Type 0} (f : ℕ → A → List B) (g : A → List C) → ((k : ℕ) (x : A) → length (f k x) ≡ length (g x)) → (k : ℕ) (xs : List A)
    → length (flat_map_at f k xs) ≡ length (flat_map g xs)
same_length f g same k [] = refl
same_length f g same k (x ∷ xs) =
    omega (arith, length-append (f k x) (flat_map_at f (suc k) xs), length-append (g x) (flat_map g xs), same k x, same_length f g same (suc k) xs)

-- what a front gives is no longer
pub take_length : {A B : Type 0} (f : A → List B) (k : ℕ) (xs : List A) → length (flat_map f (take k xs)) ≤ length (flat_map f xs)
take_length f k xs = omega (arith, simp (flat_map-append, length-append) at (ap (λ l. length (flat_map f l)) (take-append-drop k xs)))

-- at most as many from each item
pub flat_map_at_shorter : {A B C : Type 0} (f : ℕ → A → List B) (g : A → List C) → ((k : ℕ) (x : A) → length (f k x) ≤ length (g x)) → (k : ℕ) (xs : List A)
    → length (flat_map_at f k xs) ≤ length (flat_map g xs)
flat_map_at_shorter f g le k [] = omega arith
flat_map_at_shorter f g le k (x ∷ xs) =
    omega (arith, length-append (f k x) (flat_map_at f (suc k) xs), length-append (g x) (flat_map g xs), le k x, flat_map_at_shorter f g le (suc k) xs)

pub flat_map_at_single : {A B : Type 0} (f : ℕ → A → List B) → ((k : ℕ) (x : A) → length (f k x) ≤ 1) → (k : ℕ) (xs : List A) → length (flat_map_at f k xs) ≤ length xs
flat_map_at_single f le k [] = omega arith
flat_map_at_single f le k (x ∷ xs) = omega (arith, length-append (f k x) (flat_map_at f (suc k) xs), le k x, flat_map_at_single f le (suc k) xs)

-- ---- parts that know nothing of their place

pub flat_map_is : {A B : Type 0} (f : A → List B) (k : ℕ) (xs : List A) → flat_map_at (λ k x. f x) k xs ≡ flat_map f xs
flat_map_is f k [] = refl
flat_map_is f k (x ∷ xs) = ap (λ ys. f x ++ ys) (flat_map_is f (suc k) xs)

-- parts of the parts
pub flat_map_parts : {A B C : Type 0} (h : B → List C) (f : ℕ → A → List B) (g : A → List C) → ((k : ℕ) (x : A) → flat_map h (f k x) ≡ g x)
    → (k : ℕ) (xs : List A) → flat_map h (flat_map_at f k xs) ≡ flat_map g xs
flat_map_parts h f g same k [] = refl
flat_map_parts h f g same k (x ∷ xs) = flat_map-append h (f k x) (flat_map_at f (suc k) xs) ∙ ap₂ (λ ys zs. ys ++ zs) (same k x) (flat_map_parts h f g same (suc k) xs)

pub at_flat : {A B : Type 0} (f : A → List B) (xs : List A) (i j : ℕ) (x : A) (y : B) → slice_get xs i ≡ Some x → slice_get (f x) j ≡ Some y
    → slice_get (flat_map f xs) (length (flat_map f (take i xs)) + j) ≡ Some y
at_flat f xs i j x y e g =
    ap₂ (λ ys zs. slice_get ys (length zs + j)) (sym (flat_map_is f 0 xs)) (sym (flat_map_is f 0 (take i xs))) ∙ at_part (λ k. f) xs i j x y e g

pub flat_part : {A B : Type 0} (f : A → List B) (xs : List A) (n : ℕ) (y : B) → slice_get (flat_map f xs) n ≡ Some y → Part (λ k. f) (λ i. length (flat_map f (take i xs))) xs n y
flat_part f xs n y e =
    let p = part_of (λ k. f) xs n y (ap (λ ys. slice_get ys n) (flat_map_is f 0 xs) ∙ e) in
    record { part = p.part; owner = p.owner; there = p.there; place = p.place; item = p.item; number = p.number ∙ ap (λ ys. length ys + p.place) (flat_map_is f 0 (take p.part xs)) }

-- ---- how many items pass a test

most_from : {A B : Type 0} (test : B → Bool) (f : ℕ → A → List B) (m most k : ℕ) (xs : List A)
    → ((i j : ℕ) (x : A) → i ≡ k + j → slice_get xs j ≡ Some x → count_by test (f i x) ≤ cond (eqb i m) most 0) → count_by test (flat_map_at f k xs) ≤ cond (leb k m) most 0
most_from test f m most k [] h = omega arith
most_from test f m most k (x ∷ xs) h =
    let both = sum_by-append (λ y. cond (test y) 1 0) (f k x) (flat_map_at f (suc k) xs) in
    let here = h k 0 x (omega arith) refl in
    let rest = most_from test f m most (suc k) xs (λ i j y is e. h i (suc j) y (omega (arith, is)) e) in
    grind (arith, nat_tests)

-- so many at most, where so many of part m do, and none of another
pub most_in_part : {A B : Type 0} (test : B → Bool) (f : ℕ → A → List B) (m most : ℕ) (xs : List A)
    → ((i : ℕ) (x : A) → slice_get xs i ≡ Some x → count_by test (f i x) ≤ cond (eqb i m) most 0) → count_by test (flat_map_at f 0 xs) ≤ most
most_in_part test f m most xs h =
    let all = most_from test f m most 0 xs (λ i j x is e. h i x (ap (slice_get xs) (let same : i ≡ j = omega (arith, is) in same) ∙ e)) in
    grind (arith, nat_tests)

-- ---- lists by owners, of which each has nodes that give an item each

-- what the nodes of an owner give
abbrev pub given : {A N B : Type 0} → (ℕ → A → N → B) → (A → List N) → ℕ → A → List B
given item nodes k x = map (item k x) (nodes x)

pub counted : {A N B : Type 0} (item : ℕ → A → N → B) (nodes : A → List N) (xs : List A) → length (flat_map_at (given item nodes) 0 xs) ≡ length (flat_map nodes xs)
counted item nodes xs = same_length (given item nodes) nodes (λ k x. length-map (nodes x) (item k x)) 0 xs

-- the item of a node stands behind those of the owners before
pub stands : {A N B : Type 0} (item : ℕ → A → N → B) (nodes : A → List N) (xs : List A) (k m : ℕ) (x : A) (n : N) → slice_get xs k ≡ Some x → slice_get (nodes x) m ≡ Some n
    → slice_get (flat_map_at (given item nodes) 0 xs) (length (flat_map nodes (take k xs)) + m) ≡ Some (item k x n)
stands item nodes xs k m x n there its =
    subst (λ (i : ℕ). slice_get (flat_map_at (given item nodes) 0 xs) (i + m) ≡ Some (item k x n)) (counted item nodes (take k xs))
    (at_part (given item nodes) xs k m x (item k x n) there (get_mapped (item k x) (nodes x) m n its))

-- an item has the place of its part as owner
owned : {A N B : Type 0} (item : ℕ → A → N → B) (nodes : A → List N) (own : B → ℕ) → ((k : ℕ) (x : A) (n : N) → own (item k x n) ≡ k)
    → (k : ℕ) (x : A) (j : ℕ) (y : B) → slice_get (given item nodes k x) j ≡ Some y → own y ≡ k
owned item nodes own is k x j y e = let r = from_map (item k x) (nodes x) j y e in sym (ap own r.2) ∙ is k x r.0

-- all items of an owner pass the test, or none does
count_alike : {N B : Type 0} (test : B → Bool) (b : Bool) (g : N → B) (ns : List N) → ((n : N) → test (g n) ≡ b) → count_by test (map g ns) ≤ cond b (length ns) 0
count_alike test b g [] alike = omega arith
count_alike test b g (n ∷ ns) alike =
    let first = sum_by-cons (λ y. cond (test y) 1 0) (g n) (map g ns) in
    let here = alike n in
    let rest = count_alike test b g ns alike in
    grind (arith, nat_tests)

-- no owner has more items than nodes
pub few_owned : {A N B : Type 0} (item : ℕ → A → N → B) (nodes : A → List N) (own : B → ℕ) → ((k : ℕ) (x : A) (n : N) → own (item k x n) ≡ k)
    → (m most : ℕ) (xs : List A) → ((x : A) → slice_get xs m ≡ Some x → length (nodes x) ≤ most) → count_by (λ y. eqb (own y) m) (flat_map_at (given item nodes) 0 xs) ≤ most
few_owned item nodes own is m most xs few =
    most_in_part (λ y. eqb (own y) m) (given item nodes) m most xs (λ i x e.
    let size = count_alike (λ y. eqb (own y) m) (eqb i m) (item i x) (nodes x) (λ n. ap (λ k. eqb k m) (is i x n)) in
    let low = λ (same : i ≡ m). few x (ap (slice_get xs) (sym same) ∙ e) in
    grind (arith, nat_tests))

-- owners don't fall
pub owners_order : {A N B : Type 0} (item : ℕ → A → N → B) (nodes : A → List N) (own : B → ℕ) → ((k : ℕ) (x : A) (n : N) → own (item k x n) ≡ k)
    → (xs : List A) → IsNonDecreasing (map own (flat_map_at (given item nodes) 0 xs))
owners_order item nodes own is xs i j d less below =
    let f = given item nodes in
    let owners = map own (flat_map_at f 0 xs) in
    let y = from_map own (flat_map_at f 0 xs) i (get_or owners i d) (slice_get-get_or owners i d (omega (arith, less, below))) in
    let z = from_map own (flat_map_at f 0 xs) j (get_or owners j d) (slice_get-get_or owners j d below) in
    let p = part_of f xs i y.0 y.1 in
    let q = part_of f xs j z.0 z.1 in
    let one = owned item nodes own is p.part p.owner p.place y.0 p.item in
    let two = owned item nodes own is q.part q.owner q.place z.0 q.item in
    elim (cases_lt q.part p.part) [
      | inl lower ↦
          let within = slice_get_within (f q.part q.owner) q.place z.0 q.item in
          absurd (omega (arith, less, part_before f xs q.part p.part q.owner lower q.there, within, p.number, q.number))
      | inr order ↦ omega (arith, order, one, two, y.2, z.2)
    ]
