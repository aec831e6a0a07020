-- The bits of a row, one after the other, and rows turned around.
use Rattle.std.proofs.Common.{◌≡◌, ◌≢◌, ℕ, zero, suc, ◌+◌, ◌-◌, ◌/◌, ◌^◌, ◌<◌, ◌≤◌, ◌⊎◌, min, Bool, true, false, ◌&&◌, ◌||◌, eqb, List, length, get_or, set, refl, sym, ap, ◌∙◌, arith, inl, inr, ⊎_elim, get_or-set_same, get_or-set_other}
use Rattle.htl_edf.proofs.Words.{bit_at, div-one, div-div-eq-div-mul, pow-succ', cases_lt, bit_at-suc, bit_at-zero, has_bit, cell}

-- what is shifted out is passed over
pub shifted : (k n x : ℕ) → bit_at (n / 2 ^ k) x ≡ bit_at n (k + x)
shifted zero n x = ap (λ m. bit_at m x) (div-one n) ∙ ap (bit_at n) (let e : x ≡ 0 + x = omega arith in e)
shifted (suc k) n x =
    ap (λ m. bit_at (n / m) x) (pow-succ' 2 k) ∙ ap (λ m. bit_at m x) (sym (div-div-eq-div-mul n 2 (2 ^ k)))
    ∙ shifted k (n / 2) x ∙ sym (bit_at-suc n (k + x)) ∙ ap (bit_at n) (let e : suc (k + x) ≡ suc k + x = omega arith in e)

at : (row from x b : ℕ) → from ≤ x → bit_at (row / 2 ^ from) (x - from) ≡ b → bit_at row x ≡ b
at row from x b h e = ap (bit_at row) (let e : x ≡ from + (x - from) = omega arith in e) ∙ sym (shifted from row (x - from)) ∙ e

pub none_from : (row from x : ℕ) → row / 2 ^ from ≡ 0 → from ≤ x → has_bit row x ≡ false
none_from row from x none h = ap (λ b. eqb b 1) (at row from x 0 h (ap (λ n. bit_at n (x - from)) none ∙ bit_at-zero (x - from)))

pub skipped_to : (row from low count x : ℕ) → ((i : ℕ) → i < low → bit_at (row / 2 ^ from) i ≡ 0) → from ≤ x → x < min (from + low) count → has_bit row x ≡ false
skipped_to row from low count x none h less = ap (λ b. eqb b 1) (at row from x 0 h (none (x - from) (omega arith)))

pub found_at : (row from low count : ℕ) → bit_at (row / 2 ^ from) low ≡ 1 → min (from + low) count < count → has_bit row (min (from + low) count) ≡ true
found_at row from low count one less =
    let is : min (from + low) count ≡ from + low = omega arith in
    let back : from + low - from ≡ low = omega arith in
    ap (has_bit row) is ∙ ap (λ b. eqb b 1) (at row from (from + low) 1 (omega arith) (ap (bit_at (row / 2 ^ from)) back ∙ one))

-- ---- a number noted in the rows of the bits

pub or_none : (a b : Bool) → a ≡ (a || (b && false))
or_none true b = refl
or_none false true = refl
or_none false false = refl

pub and_true : (a : Bool) → a ≡ (a && true)
and_true true = refl
and_true false = refl

-- up to p the rows are noted, and from there on they are the old ones
pub record IsNoted (row q p : ℕ) (old rows : List ℕ) : Type 0 where
  pub len : length rows ≡ length old
  pub noted : (x r : ℕ) → x < p → cell rows x r ≡ (cell old x r || (eqb r q && has_bit row x))
  pub rest : (x r : ℕ) → p ≤ x → cell rows x r ≡ cell old x r

pub noted_none : (row q p : ℕ) (old : List ℕ) → ((x : ℕ) → 0 ≤ x → x < p → has_bit row x ≡ false) → IsNoted row q p old old
noted_none row q p old skipped = record {
  len = refl;
  noted = λ x r h. or_none (cell old x r) (eqb r q) ∙ ap (λ b. cell old x r || (eqb r q && b)) (sym (skipped x (omega arith) h));
  rest = λ x r h. refl;
}

pub noted_more : (row q p next new : ℕ) (old rows : List ℕ) → IsNoted row q p old rows → p < length old → has_bit row p ≡ true → p + 1 ≤ next
    → ((x : ℕ) → p + 1 ≤ x → x < next → has_bit row x ≡ false) → ((r : ℕ) → has_bit new r ≡ (has_bit (get_or rows p 0) r || eqb r q)) → length (set rows p new) ≡ length rows
    → IsNoted row q next old (set rows p new)
noted_more row q p next new old rows so_far room found up skipped bits same = record { len = same ∙ so_far.len; noted = noted; rest = rest }
  where
    other : (x : ℕ) → (x < p) ⊎ (p < x) → x ≢ p
    other x h e = ⊎_elim (λ (l : x < p). omega (arith, e)) (λ (l : p < x). omega (arith, e)) h

    here : (r : ℕ) → cell (set rows p new) p r ≡ (cell old p r || (eqb r q && has_bit row p))
    here r =
        ap (λ n. has_bit n r) (get_or-set_same rows p new 0 (omega (arith, so_far.len))) ∙ bits r ∙ ap (λ b. b || eqb r q) (so_far.rest p r (omega arith))
        ∙ ap (λ b. cell old p r || b) (and_true (eqb r q) ∙ ap (λ b. eqb r q && b) (sym found))

    noted : (x r : ℕ) → x < next → cell (set rows p new) x r ≡ (cell old x r || (eqb r q && has_bit row x))
    noted x r h = ⊎_elim
        (λ (l : x < p). ap (λ n. has_bit n r) (get_or-set_other rows p x new 0 (other x (inl l))) ∙ so_far.noted x r l)
        (λ (l : p ≤ x). ⊎_elim
        (λ (m : p < x). ap (λ n. has_bit n r) (get_or-set_other rows p x new 0 (other x (inr m))) ∙ so_far.rest x r l ∙ or_none (cell old x r) (eqb r q)
        ∙ ap (λ b. cell old x r || (eqb r q && b)) (sym (skipped x (omega arith) h)))
        (λ (m : x ≤ p). let is : p ≡ x = omega arith in ap (λ y. cell (set rows p new) y r) (sym is) ∙ here r ∙ ap (λ y. cell old y r || (eqb r q && has_bit row y)) is)
        (cases_lt p x))
        (cases_lt x p)

    rest : (x r : ℕ) → next ≤ x → cell (set rows p new) x r ≡ cell old x r
    rest x r h = ap (λ n. has_bit n r) (get_or-set_other rows p x new 0 (other x (inr (omega arith)))) ∙ so_far.rest x r (omega arith)
