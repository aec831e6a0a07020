-- The bits of rows of 64, as marks of numbers.
use Rattle.std.proofs.Common.{◌≡◌, ◌≢◌, ℕ, ◌+◌, ◌-◌, ◌*◌, ◌/◌, ◌%◌, ◌^◌, ◌≤◌, ◌<◌, ◌||◌, Bool, true, false, cond, eqb, List, length, get_or, set, min, refl, sym, ap, ◌∙◌, arith, inl, inr, get_or-set_same, get_or-set_other}
use Rattle.htl_machine.proofs.Words.{bit_at, nat_tests, or-false, or-true, cases_lt, cases_eq, shr-shr, bit_at-zero, has_bit, has_no_bit, Marks, eqb_apart}
use Rattle.htl_machine.specs.Marks.{is_marked, row_of}

-- ---- one row

-- a bit from one on is a bit of what is shifted down to it
shifted : (row from k bit : ℕ) → from ≤ k → bit_at (row / 2 ^ from) (k - from) ≡ bit → bit_at row k ≡ bit
shifted row from k bit low e =
    let back : from + (k - from) ≡ k = omega arith in
    ap (λ n. row / 2 ^ n % 2) (sym back) ∙ sym (ap (λ n. n % 2) (shr-shr row from (k - from))) ∙ e

pub none_from : (row from k : ℕ) → row / 2 ^ from ≡ 0 → from ≤ k → has_bit row k ≡ false
none_from row from k none low = ap (λ b. eqb b 1) (shifted row from k 0 low (ap (λ n. bit_at n (k - from)) none ∙ bit_at-zero (k - from)))

pub skipped_to : (row from low k : ℕ) → ((i : ℕ) → i < low → bit_at (row / 2 ^ from) i ≡ 0) → from ≤ k → k < min (from + low) 64 → has_bit row k ≡ false
skipped_to row from low k none above less = ap (λ b. eqb b 1) (shifted row from k 0 above (none (k - from) (omega arith)))

pub found_at : (row from low : ℕ) → bit_at (row / 2 ^ from) low ≡ 1 → min (from + low) 64 < 64 → has_bit row (min (from + low) 64) ≡ true
found_at row from low one less =
    let is : min (from + low) 64 ≡ from + low = omega arith in
    let back : from + low - from ≡ low = omega arith in
    ap (has_bit row) is ∙ ap (λ b. eqb b 1) (shifted row from (from + low) 1 (omega arith) (ap (bit_at (row / 2 ^ from)) back ∙ one))

-- ---- all rows

pub skipped_row : (m : Marks) (row bit next from : ℕ) → ((k : ℕ) → from ≤ k → k < row * 64 + bit → is_marked m k ≡ false)
    → ((k : ℕ) → bit ≤ k → k < next → has_bit (row_of m row) k ≡ false) → next ≤ 64 → (k : ℕ) → from ≤ k → k < row * 64 + next → is_marked m k ≡ false
unfolding is_marked
skipped_row m row bit next from before here most k low less = elim (cases_lt k (row * 64 + bit)) [
  | inl l ↦ before k low l
  | inr l ↦
      let at : k / 64 ≡ row = omega arith in
      ap (λ n. has_bit (row_of m n) (k % 64)) at ∙ here (k % 64) (omega arith) (omega arith)
]

-- rows without marks
pub skipped_rows : (m : Marks) (row next from : ℕ) → ((k : ℕ) → from ≤ k → k < row * 64 → is_marked m k ≡ false) → ((r : ℕ) → row ≤ r → r < next → row_of m r ≡ 0)
    → (k : ℕ) → from ≤ k → k < next * 64 → is_marked m k ≡ false
unfolding is_marked
skipped_rows m row next from before none k low less = elim (cases_lt k (row * 64)) [
  | inl l ↦ before k low l
  | inr l ↦ ap (λ n. has_bit n (k % 64)) (none (k / 64) (omega arith) (omega arith)) ∙ has_no_bit (k % 64)
]

pub found_row : (m : Marks) (row bit : ℕ) → has_bit (row_of m row) bit ≡ true → bit < 64 → is_marked m (row * 64 + bit) ≡ true
unfolding is_marked
found_row m row bit found less =
    let at : (row * 64 + bit) / 64 ≡ row = omega arith in
    let place : (row * 64 + bit) % 64 ≡ bit = omega arith in
    ap (λ n. has_bit (row_of m n) ((row * 64 + bit) % 64)) at ∙ ap (has_bit (row_of m row)) place ∙ found

-- the first row that is looked at, and the bit in it
pub first_row : (m : Marks) (from row bit : ℕ) → from / 64 ≤ row → ((r : ℕ) → from / 64 ≤ r → r < row → row_of m r ≡ 0)
    → (row ≡ from / 64 → bit ≡ from % 64) → (row ≢ from / 64 → bit ≡ 0) → (from ≤ row * 64 + bit) × ((k : ℕ) → from ≤ k → k < row * 64 + bit → is_marked m k ≡ false)
unfolding is_marked
first_row m from row bit up none here later = elim (cases_eq row (from / 64)) [
  | inl e ↦ let b = here e in (omega (arith, e, b), λ k low less. absurd (omega (arith, e, b, low, less)))
  | inr d ↦
      let b = later d in (
        omega (arith, b, up, d),
        λ k low less. ap (λ n. has_bit n (k % 64)) (none (k / 64) (omega (arith, low)) (omega (arith, less, b))) ∙ has_no_bit (k % 64),
      )
]

-- a row that isn't in use has no marks
pub unused : (m : Marks) (r : ℕ) → has_bit m.used r ≡ false → row_of m r ≡ 0
unused m r e = ap (λ b. cond b (get_or m.rows r 0) 0) e

pub put_row : (old new : Marks) (number value : ℕ) (b : Bool) → length old.rows ≡ 16 → number < 1024 → new.rows ≡ set old.rows (number / 64) value
    → ((q : ℕ) → has_bit new.used q ≡ (has_bit old.used q || eqb q (number / 64)))
    → ((k : ℕ) → has_bit value k ≡ cond (eqb k (number % 64)) b (has_bit (row_of old (number / 64)) k)) → (k : ℕ) → is_marked new k ≡ cond (eqb k number) b (is_marked old k)
unfolding is_marked
put_row old new number value b long room is used bits k = by (eqb k number) refl
  where
    row : ℕ
    row = number / 64

    unequal : (a c : ℕ) → a ≢ c → eqb a c ≡ false
    unequal a c e = grind (arith, nat_tests)

    -- the row of the number
    own : row_of new (number / 64) ≡ value
    own =
        let self : eqb (number / 64) (number / 64) ≡ true = grind (arith, nat_tests) in
        ap (λ c. cond c (get_or new.rows (number / 64) 0) 0) (used (number / 64) ∙ ap (λ c. has_bit old.used (number / 64) || c) self ∙ or-true (has_bit old.used (number / 64)))
        ∙ ap (λ (xs : List ℕ). get_or xs (number / 64) 0) is ∙ get_or-set_same old.rows (number / 64) value 0 (omega (arith, long))

    -- every eqb_apart
    same : (r : ℕ) → r ≢ number / 64 → row_of new r ≡ row_of old r
    same r d =
        ap (λ c. cond c (get_or new.rows r 0) 0) (used r ∙ ap (λ c. has_bit old.used r || c) (unequal r (number / 64) d) ∙ or-false (has_bit old.used r))
        ∙ ap (λ v. cond (has_bit old.used r) v 0) (ap (λ (xs : List ℕ). get_or xs r 0) is ∙ get_or-set_other old.rows (number / 64) r value 0 d)

    by : (e : Bool) → eqb k number ≡ e → has_bit (row_of new (k / 64)) (k % 64) ≡ cond e b (has_bit (row_of old (k / 64)) (k % 64))
    by true e =
        let equal : k ≡ number = grind (arith, nat_tests) in
        let self : eqb (number % 64) (number % 64) ≡ true = grind (arith, nat_tests) in
        ap (λ n. has_bit (row_of new (n / 64)) (n % 64)) equal ∙ ap (λ n. has_bit n (number % 64)) own
        ∙ bits (number % 64) ∙ ap (λ t. cond t b (has_bit (row_of old (number / 64)) (number % 64))) self
    by false e = elim (cases_eq (k / 64) (number / 64)) [
      | inl l ↦
          let place : k % 64 ≢ number % 64 = λ p. eqb_apart k number e (omega (arith, p, l)) in
          ap (λ n. has_bit (row_of new n) (k % 64)) l ∙ ap (λ n. has_bit n (k % 64)) own
          ∙ bits (k % 64) ∙ ap (λ t. cond t b (has_bit (row_of old (number / 64)) (k % 64))) (unequal (k % 64) (number % 64) place)
          ∙ ap (λ n. has_bit (row_of old n) (k % 64)) (sym l)
      | inr l ↦ ap (λ n. has_bit n (k % 64)) (same (k / 64) l)
    ]

pub unmarked : (m : Marks) (k : ℕ) → m.used ≡ 0 → is_marked m k ≡ false
unfolding is_marked
unmarked m k is = ap (λ n. has_bit n (k % 64)) (unused m (k / 64) (ap (λ n. has_bit n (k / 64)) is ∙ has_no_bit (k / 64))) ∙ has_no_bit (k % 64)
