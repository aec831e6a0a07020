-- Lists whose items fit those before them: item by item, apart, and with owners that don't fall.
use Rattle.std.proofs.Common.{◌≡◌, ◌≤◌, ◌<◌, ◌+◌, ◌-◌, ℕ, zero, suc, Bool, true, false, cond, ◌||◌, List, [], ◌∷◌, ◌++◌, length, map, take, get_or, slice_get, Option, Some, None, All, refl, sym, ◌∙◌, ap, subst, arith, inl, inr, append-nil, append_assoc}
use Rattle.htl_object.proofs.Words.{list_any, count_by, IsNonDecreasing, length-map, sum_by-cons, sum_by-append, slice_get_cases, slice_get-get_or, slice_get_within, AreApart, Each, all_at, from_map, from_take, get_mapped, true_not_false, or_second, cases_at_most, or_from}

-- ---- by place

pub each_at : {A : Type 0} (fits : List A → A → Type 0) (before xs : List A) (k : ℕ) (x : A) → Each fits before xs → slice_get xs k ≡ Some x → fits (before ++ take k xs) x
each_at fits before [] k x h e = cc
each_at fits before (y ∷ xs) zero x h e =
    let one : y ≡ x = cc in
    subst (fits (before ++ [])) one (subst (λ b. fits b y) (sym (append-nil before)) h.0)
each_at fits before (y ∷ xs) (suc k) x h e = subst (λ b. fits b x) (append_assoc before (y ∷ []) (take k xs)) (each_at fits (before ++ y ∷ []) xs k x h.1 e)

-- at a place of the whole list
pub at_place : {A : Type 0} (fits : List A → A → Type 0) (xs : List A) (k : ℕ) (x : A) → Each fits [] xs → slice_get xs k ≡ Some x → fits (take k xs) x
at_place fits xs k x h e = each_at fits [] xs k x h e

pub all_of : {A : Type 0} (fits : List A → A → Type 0) (P : A → Type 0) (xs : List A) → ((before : List A) (x : A) → fits before x → P x) → Each fits [] xs → All P xs
all_of fits P xs f h = λ k d less. f (take k xs) (get_or xs k d) (at_place fits xs k (get_or xs k d) h (slice_get-get_or xs k d less))

pub get_take : {A : Type 0} (xs : List A) (k j : ℕ) → j < k → slice_get (take k xs) j ≡ slice_get xs j
get_take xs zero j h = absurd (omega arith)
get_take [] (suc k) j h = refl
get_take (x ∷ xs) (suc k) zero h = refl
get_take (x ∷ xs) (suc k) (suc j) h = get_take xs k j (omega arith)

pub length_take : {A : Type 0} (xs : List A) (k : ℕ) → k ≤ length xs → length (take k xs) ≡ k
length_take xs zero h = refl
length_take [] (suc k) h = absurd (omega arith)
length_take (x ∷ xs) (suc k) h = let r : length (take k xs) ≡ k = length_take xs k (omega arith) in omega arith

pub none_there : {A : Type 0} (f : A → Bool) (xs : List A) (k : ℕ) (x : A) → list_any f xs ≡ false → slice_get xs k ≡ Some x → f x ≡ false
none_there f [] k x h e = cc
none_there f (y ∷ xs) zero x h e = let one : y ≡ x = cc in sym (ap f one) ∙ left (f y) (list_any f xs) h
  where
    left : (a b : Bool) → (a || b) ≡ false → a ≡ false
    left true b h = cc
    left false b h = refl
none_there f (y ∷ xs) (suc k) x h e = none_there f xs k x (or_second (f y) (list_any f xs) h) e

-- ---- keys that differ

pub apart : {A B : Type 0} (key : A → B) (fits : List A → A → Type 0) (same : A → A → Bool) (xs : List A)
    → ((before : List A) (x : A) → fits before x → list_any (λ y. same y x) before ≡ false) → ((y x : A) → key y ≡ key x → same y x ≡ true) → Each fits [] xs → AreApart (map key xs)
apart key fits same xs none tells h = λ j k v less p q.
    let y = from_map key xs j v p in
    let x = from_map key xs k v q in
    let off = none (take k xs) x.0 (at_place fits xs k x.0 h x.1) in
    let here : slice_get (take k xs) j ≡ Some y.0 = get_take xs k j less ∙ y.1 in
    true_not_false (same y.0 x.0) (tells y.0 x.0 (y.2 ∙ sym x.2)) (none_there (λ z. same z x.0) (take k xs) j y.0 off here)

-- ---- owners that don't fall

abbrev pub last_by : {A : Type 0} → (A → ℕ) → List A → ℕ
last_by own before = elim (slice_get before (length before - 1)) [ Some m ↦ own m | None ↦ 0 ]

last_is : {A : Type 0} (own : A → ℕ) (xs : List A) (k : ℕ) (y : A) → slice_get xs k ≡ Some y → last_by own (take (suc k) xs) ≡ own y
last_is {A} own xs k y e =
    let less : k < length xs = slice_get_within xs k y e in
    let size : length (take (suc k) xs) ≡ suc k = length_take xs (suc k) (omega arith) in
    let place : length (take (suc k) xs) - 1 ≡ k = omega (arith, size) in
    ap (λ (n : ℕ). elim (slice_get (take (suc k) xs) n) as (λ _. ℕ) [ Some m ↦ own m | None ↦ 0 ]) place
    ∙ ap (λ (o : Option A). elim o as (λ _. ℕ) [ Some m ↦ own m | None ↦ 0 ]) (get_take xs (suc k) k (omega arith) ∙ e)

climbs : {A : Type 0} (own : A → ℕ) (fits : List A → A → Type 0) (xs : List A) → ((before : List A) (x : A) → fits before x → last_by own before ≤ own x) → Each fits [] xs
    → (j i : ℕ) (y x : A) → i ≤ j → slice_get xs i ≡ Some y → slice_get xs j ≡ Some x → own y ≤ own x
climbs own fits xs f h zero i y x less p q =
    let same : i ≡ 0 = omega arith in
    let e : Some y ≡ Some x = sym p ∙ ap (slice_get xs) same ∙ q in
    let one : y ≡ x = cc in
    omega (arith, ap own one)
climbs own fits xs f h (suc j) i y x less p q = elim (cases_at_most i j less) [
  | inl low ↦ elim (slice_get_cases xs j).1 [
    | inl c ↦
        let up = f (take (suc j) xs) x (at_place fits xs (suc j) x h q) in
        omega (arith, climbs own fits xs f h j i y c.0 low p c.2, last_is own xs j c.0 c.2, up)
    | inr c ↦ absurd (omega (arith, c.0, slice_get_within xs (suc j) x q))
  ]
  | inr same ↦
      let e : Some y ≡ Some x = sym p ∙ ap (slice_get xs) same ∙ q in
      let one : y ≡ x = cc in
      omega (arith, ap own one)
]

pub rising : {A : Type 0} (own : A → ℕ) (fits : List A → A → Type 0) (xs : List A) → ((before : List A) (x : A) → fits before x → last_by own before ≤ own x) → Each fits [] xs → IsNonDecreasing (map own xs)
rising own fits xs f h = λ i j d less below.
    let owners = map own xs in
    let y = from_map own xs i (get_or owners i d) (slice_get-get_or owners i d (omega (arith, less, below))) in
    let x = from_map own xs j (get_or owners j d) (slice_get-get_or owners j d below) in
    omega (arith, climbs own fits xs f h j i y.0 x.0 less y.1 x.1, y.2, x.2)

-- ---- few of one owner

pub few_from : {A : Type 0} (test : A → Bool) (fits : List A → A → Type 0) (most : ℕ) (before xs : List A) → ((b : List A) (x : A) → fits b x → test x ≡ true → count_by test b < most)
    → count_by test before ≤ most → Each fits before xs → count_by test (before ++ xs) ≤ most
few_from test fits most before [] f low h = subst (λ ys. count_by test ys ≤ most) (sym (append-nil before)) low
few_from test fits most before (x ∷ xs) f low h =
    subst (λ ys. count_by test ys ≤ most) (append_assoc before (x ∷ []) xs) (few_from test fits most (before ++ x ∷ []) xs f (next (test x) refl) h.1)
  where
    one : (b : Bool) → test x ≡ b → count_by test (x ∷ []) ≡ cond b 1 0
    one b e = sum_by-cons (λ y. cond (test y) 1 0) x [] ∙ ap (λ (c : Bool). cond c 1 0 + 0) e ∙ (let z : cond b 1 0 + 0 ≡ cond b 1 0 = omega arith in z)

    next : (b : Bool) → test x ≡ b → count_by test (before ++ x ∷ []) ≤ most
    next true e = omega (arith, sum_by-append (λ y. cond (test y) 1 0) before (x ∷ []), one true e, f before x h.0 e)
    next false e = omega (arith, sum_by-append (λ y. cond (test y) 1 0) before (x ∷ []), one false e, low)

-- ---- from what is known of each place to what fits those before it

each_from : {A : Type 0} (fits : List A → A → Type 0) (before xs : List A) → ((k : ℕ) (x : A) → slice_get xs k ≡ Some x → fits (before ++ take k xs) x) → Each fits before xs
each_from fits before [] f = tt
each_from fits before (y ∷ xs) f = (
  subst (λ b. fits b y) (append-nil before) (f 0 y refl),
  each_from fits (before ++ y ∷ []) xs (λ k x e. subst (λ b. fits b x) (sym (append_assoc before (y ∷ []) (take k xs))) (f (suc k) x e)),
)

pub each_of : {A : Type 0} (fits : List A → A → Type 0) (xs : List A) → ((k : ℕ) (x : A) → slice_get xs k ≡ Some x → fits (take k xs) x) → Each fits [] xs
each_of fits xs f = each_from fits [] xs f

pub every : {A : Type 0} (P : A → Type 0) (xs : List A) → All P xs → Each (λ _. P) [] xs
every P xs h = each_of (λ _. P) xs (λ k x e. all_at P xs k x h e)

none_any : {A : Type 0} (f : A → Bool) (xs : List A) → ((j : ℕ) (y : A) → slice_get xs j ≡ Some y → f y ≡ false) → list_any f xs ≡ false
none_any f [] h = refl
none_any f (x ∷ xs) h = or_from (f x) (list_any f xs) (h 0 x refl) (none_any f xs (λ j y e. h (suc j) y e))

-- where keys differ, no item before one has its key
pub none_before : {A B : Type 0} (key : A → B) (same : A → Bool) (xs : List A) (k : ℕ) (x : A) → AreApart (map key xs) → slice_get xs k ≡ Some x → ((y : A) → same y ≡ true → key y ≡ key x)
    → list_any same (take k xs) ≡ false
none_before key same xs k x apart at tells = none_any same (take k xs) (λ j y e. by j y (from_take xs k j y e) (same y) refl)
  where
    by : (j : ℕ) (y : _) → (j < k) × (slice_get xs j ≡ Some y) → (b : Bool) → same y ≡ b → b ≡ false
    by j y t true is = absurd (apart j k (key x) t.0 (get_mapped key xs j y t.1 ∙ ap (λ z. Some z) (tells y is)) (get_mapped key xs k x at))
    by j y t false is = refl

key_at : {A : Type 0} (own : A → ℕ) (xs : List A) (k : ℕ) (y : A) → slice_get xs k ≡ Some y → get_or (map own xs) k 0 ≡ own y
key_at own xs k y e =
    let less : k < length (map own xs) = omega (arith, length-map xs own, slice_get_within xs k y e) in
    let there : Some (get_or (map own xs) k 0) ≡ Some (own y) = sym (slice_get-get_or (map own xs) k 0 less) ∙ get_mapped own xs k y e in
    cc

-- owners that don't fall: the owner of the last item before one is at most its own
pub last_least : {A : Type 0} (own : A → ℕ) (xs : List A) (k : ℕ) (x : A) → IsNonDecreasing (map own xs) → slice_get xs k ≡ Some x → last_by own (take k xs) ≤ own x
last_least own xs zero x h e = let none : last_by own (take 0 xs) ≡ 0 = refl in omega (arith, none)
last_least own xs (suc k) x h e = elim (slice_get_cases xs k).1 [
  | inl c ↦
      let rise = h k (suc k) 0 (omega arith) (omega (arith, length-map xs own, slice_get_within xs (suc k) x e)) in
      omega (arith, rise, key_at own xs k c.0 c.2, key_at own xs (suc k) x e, last_is own xs k c.0 c.2)
  | inr c ↦ absurd (omega (arith, c.0, slice_get_within xs (suc k) x e))
]
