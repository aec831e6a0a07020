-- Items whose keys don't fall: those of one key stand together.
use Rattle.std.proofs.Common.{◌≡◌, ◌≤◌, ◌<◌, ◌⊎◌, ℕ, zero, suc, ◌+◌, Bool, true, false, cond, eqb, List, [], ◌∷◌, ◌++◌, ◌||◌, length, get_or, map, Some, refl, sym, ◌∙◌, ap, arith, inl, inr}
use Rattle.htl_model.proofs.Words.{IsNonDecreasing, lt-ltb, le-ltb, cases_lt, eq-eqb, false_from_ne_true, nat_tests, get_or-map, length-map, slice_get_within, get_or_from_slice_get, places_from, below, cases_less_same, slice_get}

-- no key is below one before it
abbrev pub Rises : {X : Type 0} → (X → ℕ) → List X → Type 0
Rises {X} key xs = (p q : ℕ) (x y : X) → p ≤ q → slice_get xs p ≡ Some x → slice_get xs q ≡ Some y → key x ≤ key y

pub rises : {X : Type 0} (key : X → ℕ) (xs : List X) → IsNonDecreasing (map key xs) → Rises key xs
rises key xs r p q x y le at_p at_q =
    let below_q : q < length xs = slice_get_within xs q y at_q in
    let below_p : p < length xs = slice_get_within xs p x at_p in
    let rise : get_or (map key xs) p 0 ≤ get_or (map key xs) q 0 = r p q 0 le (simp length-map below_q) in
    let is_p : get_or (map key xs) p 0 ≡ key x = get_or-map key xs p x 0 below_p ∙ ap key (get_or_from_slice_get xs p x x at_p) in
    let is_q : get_or (map key xs) q 0 ≡ key y = get_or-map key xs q y 0 below_q ∙ ap key (get_or_from_slice_get xs q y y at_q) in
    omega arith

later : {X : Type 0} (key : X → ℕ) (x : X) (xs : List X) → Rises key (x ∷ xs) → Rises key xs
later key x xs r p q y z le at_p at_q = r (suc p) (suc q) y z (omega arith) at_p at_q

pub unequal : (a b : ℕ) → (a < b) ⊎ (b < a) → eqb a b ≡ false
unequal a b (inl h) = grind (arith, nat_tests)
unequal a b (inr h) = grind (arith, nat_tests)

-- none where the first is not
pub none_below : {X : Type 0} (key : X → ℕ) (u : ℕ) (xs : List X) → ((p : ℕ) (x : X) → slice_get xs p ≡ Some x → u ≤ key x) → below key u xs ≡ 0
none_below key u [] h = refl
none_below key u (x ∷ xs) h =
    let here = ap (λ b. cond b 1 0 + below key u xs) (le-ltb (key x) u (h 0 x refl)) in
    let behind = none_below key u xs (λ p y at. h (suc p) y at) in
    omega (arith, here, behind)

pub all_below : {X : Type 0} (key : X → ℕ) (u : ℕ) (xs : List X) → ((p : ℕ) (x : X) → slice_get xs p ≡ Some x → key x < u) → below key u xs ≡ length xs
all_below key u [] h = refl
all_below key u (x ∷ xs) h =
    let here = ap (λ b. cond b 1 0 + below key u xs) (lt-ltb (key x) u (h 0 x refl)) in
    let behind = all_below key u xs (λ p y at. h (suc p) y at) in
    omega (arith, here, behind)

-- and no more than all
pub most_below : {X : Type 0} (key : X → ℕ) (u : ℕ) (xs : List X) → below key u xs ≤ length xs
most_below key u [] = omega arith
most_below key u (x ∷ xs) = grind (arith, cases_lt, lt-ltb, le-ltb, most_below key u xs)

one_below : {X : Type 0} (key : X → ℕ) (u : ℕ) (x : X) (xs : List X) → key x < u → below key u (x ∷ xs) ≡ 1 + below key u xs
one_below key u x xs h = ap (λ b. cond b 1 0 + below key u xs) (lt-ltb (key x) u h)

first_above : {X : Type 0} (key : X → ℕ) (u : ℕ) (x : X) (xs : List X) → Rises key (x ∷ xs) → u ≤ key x → below key u (x ∷ xs) ≡ 0
first_above key u x xs r h = none_below key u (x ∷ xs) (λ p y at. let up = r 0 p x y (omega arith) refl at in omega arith)

-- the items with keys below a number are those in front
low_at : {X : Type 0} (key : X → ℕ) (u p : ℕ) (x y : X) (ys : List X) → ((i : ℕ) → slice_get ys i ≡ Some x → i < below key u ys → key x < u)
    → slice_get (y ∷ ys) p ≡ Some x → p < below key u (y ∷ ys) → key y < u → key x < u
low_at key u zero x y ys deeper at h less = let same : y ≡ x = cc in omega (arith, ap key same)
low_at key u (suc p) x y ys deeper at h less = deeper p at (omega (arith, one_below key u y ys less))

pub key_below : {X : Type 0} (key : X → ℕ) (u p : ℕ) (x : X) (xs : List X) → Rises key xs → slice_get xs p ≡ Some x → p < below key u xs → key x < u
key_below key u p x [] r at h = cc
key_below key u p x (y ∷ ys) r at h = elim (cases_lt (key y) u) [
  | inl less ↦ low_at key u p x y ys (λ i. key_below key u i x ys (later key y ys r)) at h less
  | inr more ↦ absurd (omega (arith, first_above key u y ys r more))
]

high_at : {X : Type 0} (key : X → ℕ) (u p : ℕ) (x y : X) (ys : List X) → ((i : ℕ) → slice_get ys i ≡ Some x → below key u ys ≤ i → u ≤ key x)
    → slice_get (y ∷ ys) p ≡ Some x → below key u (y ∷ ys) ≤ p → key y < u → u ≤ key x
high_at key u zero x y ys deeper at h less = absurd (omega (arith, one_below key u y ys less))
high_at key u (suc p) x y ys deeper at h less = deeper p at (omega (arith, one_below key u y ys less))

pub key_above : {X : Type 0} (key : X → ℕ) (u p : ℕ) (x : X) (xs : List X) → Rises key xs → slice_get xs p ≡ Some x → below key u xs ≤ p → u ≤ key x
key_above key u p x [] r at h = cc
key_above key u p x (y ∷ ys) r at h = elim (cases_lt (key y) u) [
  | inl less ↦ high_at key u p x y ys (λ i. key_above key u i x ys (later key y ys r)) at h less
  | inr more ↦ let up = r 0 p y x (omega arith) refl at in omega arith
]

-- the places of one key
abbrev pub places_of : {X : Type 0} → (X → ℕ) → ℕ → ℕ → List X → List ℕ
places_of key u k xs = places_from (λ x. eqb (key x) u) k xs

passed : {X : Type 0} (key : X → ℕ) (u k : ℕ) (x : X) (xs : List X) → (key x < u) ⊎ (u < key x) → places_of key u k (x ∷ xs) ≡ places_of key u (suc k) xs
passed key u k x xs h = ap (λ (b : Bool). cond b (k ∷ places_of key u (suc k) xs) (places_of key u (suc k) xs)) (unequal (key x) u h)

taken : {X : Type 0} (key : X → ℕ) (u k : ℕ) (x : X) (xs : List X) → key x ≡ u → places_of key u k (x ∷ xs) ≡ k ∷ places_of key u (suc k) xs
taken key u k x xs h = ap (λ (b : Bool). cond b (k ∷ places_of key u (suc k) xs) (places_of key u (suc k) xs)) (eq-eqb (key x) u h)

not_below : {X : Type 0} (key : X → ℕ) (u : ℕ) (x : X) (xs : List X) → u ≤ key x → below key u (x ∷ xs) ≡ below key u xs
not_below key u x xs h = let here = ap (λ b. cond b 1 0 + below key u xs) (le-ltb (key x) u h) in omega (arith, here)

-- they are as many as lie between
pub run_length : {X : Type 0} (key : X → ℕ) (u k : ℕ) (xs : List X) → length (places_of key u k xs) + below key u xs ≡ below key (u + 1) xs
run_length key u k [] = refl
run_length key u k (x ∷ xs) = grind (arith, cases_less_same, passed, one_below, taken, not_below, run_length key u (suc k) xs)

-- and follow one another
taken_at : {X : Type 0} (key : X → ℕ) (u k j : ℕ) (xs : List X) → ((i : ℕ) → i < length (places_of key u (suc k) xs) → get_or (places_of key u (suc k) xs) i 0 ≡ suc k + below key u xs + i)
    → below key u xs ≡ 0 → j < suc (length (places_of key u (suc k) xs)) → get_or (k ∷ places_of key u (suc k) xs) j 0 ≡ k + j
taken_at key u k zero xs deeper none h = omega arith
taken_at key u k (suc j) xs deeper none h = deeper j (omega arith) ∙ omega (arith, none)

pub run_at : {X : Type 0} (key : X → ℕ) (u k j : ℕ) (xs : List X) → Rises key xs → j < length (places_of key u k xs) → get_or (places_of key u k xs) j 0 ≡ k + below key u xs + j
run_at key u k j [] r h = absurd (omega arith)
run_at key u k j (x ∷ xs) r within =
    elim (cases_less_same (key x) u) [
      | inl h ↦
          let e = passed key u k x xs (inl h) in
          let less : j < length (places_of key u (suc k) xs) = omega (arith, ap length e) in
          let deeper = run_at key u (suc k) j xs (later key x xs r) less in
          ap (λ z. get_or z j 0) e ∙ omega (arith, deeper, one_below key u x xs h)
      | inr (inl h) ↦
          let e = taken key u k x xs h in
          let none = first_above key u x xs r (omega arith) in
          let cut = not_below key u x xs (omega arith) in
          let here = taken_at key u k j xs (λ i. run_at key u (suc k) i xs (later key x xs r)) (omega (arith, none, cut)) (omega (arith, ap length e)) in
          ap (λ z. get_or z j 0) e ∙ omega (arith, here, none)
      | inr (inr h) ↦ absurd (omega (arith, run_length key u k (x ∷ xs), first_above key (u + 1) x xs r (omega arith)))
    ]

-- ---- lists of places in two parts

pub places_same : {X : Type 0} (p q : X → Bool) (k : ℕ) (xs : List X) → ((j : ℕ) (x : X) → slice_get xs j ≡ Some x → p x ≡ q x) → places_from p k xs ≡ places_from q k xs
places_same p q k [] h = refl
places_same p q k (x ∷ xs) h =
    ap (λ (b : Bool). cond b (k ∷ places_from p (suc k) xs) (places_from p (suc k) xs)) (h 0 x refl)
    ∙ ap (λ (z : List ℕ). cond (q x) (k ∷ z) z) (places_same p q (suc k) xs (λ j y at. h (suc j) y at))

-- none that passes the first test stands at or behind one that passes the second
abbrev pub AreInTurn : {X : Type 0} → (X → Bool) → (X → Bool) → List X → Type 0
AreInTurn {X} p q xs = (i j : ℕ) (x y : X) → i ≤ j → slice_get xs i ≡ Some x → slice_get xs j ≡ Some y → q x ≡ true → p y ≡ true → ⊥

pub none_pass : {X : Type 0} (p : X → Bool) (k : ℕ) (xs : List X) → ((j : ℕ) (y : X) → slice_get xs j ≡ Some y → p y ≡ true → ⊥) → places_from p k xs ≡ []
none_pass p k [] h = refl
none_pass p k (x ∷ xs) h =
    ap (λ (b : Bool). cond b (k ∷ places_from p (suc k) xs) (places_from p (suc k) xs)) (false_from_ne_true (p x) (h 0 x refl)) ∙ none_pass p (suc k) xs (λ j y at. h (suc j) y at)

pub in_two : {X : Type 0} (p q : X → Bool) (k : ℕ) (xs : List X) → AreInTurn p q xs → places_from (λ x. p x || q x) k xs ≡ places_from p k xs ++ places_from q k xs
in_two p q k [] h = refl
in_two p q k (x ∷ xs) h = by (p x) (q x) refl refl
    (in_two p q (suc k) xs (λ i j y z le at_i at_j. h (suc i) (suc j) y z (omega arith) at_i at_j))
    (λ e. none_pass p (suc k) xs (λ j y at. h 0 (suc j) x y (omega arith) refl at e))
  where
    both : List ℕ
    both = places_from (λ x. p x || q x) (suc k) xs

    by : (a b : Bool) → p x ≡ a → q x ≡ b → places_from (λ x. p x || q x) (suc k) xs ≡ places_from p (suc k) xs ++ places_from q (suc k) xs
        → (q x ≡ true → places_from p (suc k) xs ≡ [])
        → cond (a || b) (k ∷ places_from (λ x. p x || q x) (suc k) xs) (places_from (λ x. p x || q x) (suc k) xs)
        ≡ cond a (k ∷ places_from p (suc k) xs) (places_from p (suc k) xs) ++ cond b (k ∷ places_from q (suc k) xs) (places_from q (suc k) xs)
    by true true e f more none = absurd (h 0 0 x x (omega arith) refl refl f e)
    by true false e f more none = ap (λ z. k ∷ z) more
    by false true e f more none = ap (λ z. k ∷ z) (more ∙ ap (λ z. z ++ places_from q (suc k) xs) (none f)) ∙ ap (λ z. z ++ (k ∷ places_from q (suc k) xs)) (sym (none f))
    by false false e f more none = more
