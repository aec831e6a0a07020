-- What a search along a list finds.
use Rattle.std.proofs.Common.{◌≡◌, ℕ, zero, suc, ◌+◌, ◌<◌, ◌⊎◌, length, get_or, drop, drop-cons, add-one, List, [], ◌∷◌, Option, Some, None, refl, sym, ◌∙◌, ap, subst, arith, inl, inr}
use Rattle.htl_model.proofs.Words.{or_else, first_from, first_to, cases_below, slice_get}

pub or_else_some : {A : Type 0} (a b : Option A) (y : A) → or_else a b ≡ Some y → (a ≡ Some y) ⊎ ((a ≡ None) × (b ≡ Some y))
or_else_some (Some x) b y e = inl e
or_else_some None b y e = inr (refl, e)

pub or_else_none : {A : Type 0} (a b : Option A) → or_else a b ≡ None → (a ≡ None) × (b ≡ None)
or_else_none (Some x) b e = (cc, cc)
or_else_none None b e = (refl, e)

-- y is given at a place counted from k, and nothing at the places before it
pub record IsFirstFrom {A B : Type 0} (f : ℕ → A → Option B) (k : ℕ) (xs : List A) (y : B) : Type 0 where
  pub place : ℕ
  pub item : A
  pub at : slice_get xs place ≡ Some item
  pub gives : f (k + place) item ≡ Some y
  pub before : (i : ℕ) (z : A) → i < place → slice_get xs i ≡ Some z → f (k + i) z ≡ None

pub first_none : {A B : Type 0} (f : ℕ → A → Option B) (k : ℕ) (xs : List A) → first_from f k xs ≡ None → (i : ℕ) (z : A) → slice_get xs i ≡ Some z → f (k + i) z ≡ None
first_none f k [] e i z h = cc
first_none f k (x ∷ xs) e zero z h = grind (arith, or_else_none)
first_none f k (x ∷ xs) e (suc i) z h =
    let step : suc k + i ≡ k + suc i = omega arith in
    subst (λ j. f j z ≡ None) step (first_none f (suc k) xs (or_else_none (f k x) (first_from f (suc k) xs) e).1 i z h)

before_cons : {A B : Type 0} (f : ℕ → A → Option B) (k : ℕ) (x : A) (xs : List A) (p : ℕ) → f k x ≡ None
    → ((i : ℕ) (z : A) → i < p → slice_get xs i ≡ Some z → f (suc k + i) z ≡ None)
    → (i : ℕ) (z : A) → i < suc p → slice_get (x ∷ xs) i ≡ Some z → f (k + i) z ≡ None
before_cons f k x xs p here later zero z below h = grind arith
before_cons f k x xs p here later (suc i) z below h =
    let step : suc k + i ≡ k + suc i = omega arith in
    subst (λ j. f j z ≡ None) step (later i z (omega arith) h)

pub first_found : {A B : Type 0} (f : ℕ → A → Option B) (k : ℕ) (xs : List A) (y : B) → first_from f k xs ≡ Some y → IsFirstFrom f k xs y
first_found f k [] y e = absurd (let no : None ≡ Some y = e in cc)
first_found f k (x ∷ xs) y e =
    elim (or_else_some (f k x) (first_from f (suc k) xs) y e) [
      | inl h ↦ record { place = 0; item = x; at = refl; gives = (let at : k ≡ k + 0 = omega arith in subst (λ j. f j x ≡ Some y) at h); before = λ i z below. absurd (omega arith) }
      | inr h ↦
          let r = first_found f (suc k) xs y h.1 in
          let step : suc k + r.place ≡ k + suc r.place = omega arith in
          record {
            place = suc r.place;
            item = r.item;
            at = r.at;
            gives = subst (λ j. f j r.item ≡ Some y) step r.gives;
            before = before_cons f k x xs r.place h.0 r.before;
          }
    ]

-- places counted from 0: y is given at a place, and nothing at the places before it
pub record IsFirstAt {A B : Type 0} (f : ℕ → A → Option B) (xs : List A) (y : B) : Type 0 where
  pub place : ℕ
  pub item : A
  pub at : slice_get xs place ≡ Some item
  pub gives : f place item ≡ Some y
  pub before : (i : ℕ) (z : A) → i < place → slice_get xs i ≡ Some z → f i z ≡ None

none_from : {A B : Type 0} (f : ℕ → A → Option B) (i : ℕ) (z : A) → f (0 + i) z ≡ None → f i z ≡ None
none_from f i z h = let zero_add : 0 + i ≡ i = omega arith in subst (λ j. f j z ≡ None) zero_add h

pub none_at : {A B : Type 0} (f : ℕ → A → Option B) (xs : List A) → first_from f 0 xs ≡ None → (i : ℕ) (z : A) → slice_get xs i ≡ Some z → f i z ≡ None
none_at f xs e i z h = none_from f i z (first_none f 0 xs e i z h)

pub found_at : {A B : Type 0} (f : ℕ → A → Option B) (xs : List A) (y : B) → first_from f 0 xs ≡ Some y → IsFirstAt f xs y
found_at f xs y e =
    let r = first_found f 0 xs y e in
    let zero_add : 0 + r.place ≡ r.place = omega arith in
    record {
      place = r.place;
      item = r.item;
      at = r.at;
      gives = subst (λ j. f j r.item ≡ Some y) zero_add r.gives;
      before = λ i z below h. none_from f i z (r.before i z below h);
    }

-- the same of a search over numbers
pub to_none : {B : Type 0} (f : ℕ → Option B) (n : ℕ) → first_to f n ≡ None → (i : ℕ) → i < n → f i ≡ None
to_none f zero e i h = absurd (omega arith)
to_none f (suc n) e i h =
    let parts = or_else_none (first_to f n) (f n) e in
    elim (cases_below i n h) [ inl below ↦ to_none f n parts.0 i below | inr is ↦ subst (λ j. f j ≡ None) (sym is) parts.1 ]

pub to_found : {B : Type 0} (f : ℕ → Option B) (n : ℕ) (y : B) → first_to f n ≡ Some y → (k : ℕ) × (k < n) × (f k ≡ Some y) × ((i : ℕ) → i < k → f i ≡ None)
to_found f zero y e = absurd (let no : None ≡ Some y = e in cc)
to_found f (suc n) y e =
    elim (or_else_some (first_to f n) (f n) y e) [
      | inl h ↦ let r = to_found f n y h in (r.0, omega (arith, r.1), r.2, r.3)
      | inr h ↦ (n, omega arith, h.1, to_none f n h.0)
    ]

-- ---- steps of a loop whose invariant is `first_from f k (drop k xs) ≡ first_from f 0 xs`

pub first_hit : {A B : Type 0} (f : ℕ → A → Option B) (xs : List A) (k : ℕ) (x : A) (y : B) → first_from f k (drop k xs) ≡ first_from f 0 xs
    → k < length xs → x ≡ get_or xs k x → f k x ≡ Some y → Some y ≡ first_from f 0 xs
first_hit f xs k x y going below at here = grind (arith, drop-cons)

pub first_miss : {A B : Type 0} (f : ℕ → A → Option B) (xs : List A) (k : ℕ) (x : A) → first_from f k (drop k xs) ≡ first_from f 0 xs
    → k < length xs → x ≡ get_or xs k x → f k x ≡ None → first_from f (k + 1) (drop (k + 1) xs) ≡ first_from f 0 xs
first_miss f xs k x going below at here =
    let cut : drop k xs ≡ get_or xs k x ∷ drop (suc k) xs = drop-cons xs k x below in
    rw add-one (sym (ap (first_from f k) (cut ∙ ap (λ z. z ∷ drop (suc k) xs) (sym at)) ∙ ap (λ o. or_else o (first_from f (suc k) (drop (suc k) xs))) here) ∙ going)

-- where nothing is given anywhere, nothing is found
pub nothing_first : {A B : Type 0} (f : ℕ → A → Option B) (k : ℕ) (xs : List A) → ((j : ℕ) (x : A) → f j x ≡ None) → first_from f k xs ≡ None
nothing_first f k [] h = refl
nothing_first f k (x ∷ xs) h = ap (λ o. or_else o (first_from f (suc k) xs)) (h k x) ∙ nothing_first f (suc k) xs h

-- where nothing is given from a place on, nothing is found
pub nothing_from : {A B : Type 0} (f : ℕ → A → Option B) (k : ℕ) (xs : List A) → ((i : ℕ) (x : A) → slice_get xs i ≡ Some x → f (k + i) x ≡ None) → first_from f k xs ≡ None
nothing_from f k [] h = refl
nothing_from f k (x ∷ xs) h =
    let at : k + 0 ≡ k = omega arith in
    ap (λ o. or_else o (first_from f (suc k) xs)) (subst (λ j. f j x ≡ None) at (h 0 x refl))
    ∙ nothing_from f (suc k) xs (λ i z e. (let step : k + suc i ≡ suc k + i = omega arith in subst (λ j. f j z ≡ None) step (h (suc i) z e)))

-- the items before a place that give nothing may be passed over
pub nothing_before : {A B : Type 0} (f : ℕ → A → Option B) (k n : ℕ) (xs : List A) → ((i : ℕ) (x : A) → i < n → slice_get xs i ≡ Some x → f (k + i) x ≡ None)
    → first_from f (k + n) (drop n xs) ≡ first_from f k xs
nothing_before f k zero xs h = let at : k + 0 ≡ k = omega arith in ap (λ j. first_from f j xs) at
nothing_before f k (suc n) [] h = refl
nothing_before f k (suc n) (x ∷ xs) h =
    let at : k + 0 ≡ k = omega arith in
    let here : f k x ≡ None = subst (λ j. f j x ≡ None) at (h 0 x (omega arith) refl) in
    let step : k + suc n ≡ suc k + n = omega arith in
    ap (λ j. first_from f j (drop n xs)) step
    ∙ nothing_before f (suc k) n xs (λ i z less e. (let next : k + suc i ≡ suc k + i = omega arith in subst (λ j. f j z ≡ None) next (h (suc i) z (omega arith) e)))
    ∙ sym (ap (λ o. or_else o (first_from f (suc k) xs)) here)
