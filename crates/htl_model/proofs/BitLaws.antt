-- Rows of bits.
use Rattle.std.proofs.Common.{◌≡◌, ◌≢◌, ◌<◌, ◌≤◌, ℕ, zero, suc, ◌*◌, ◌/◌, ◌%◌, ◌^◌, Bool, true, false, ◌||◌, eqb, max, replicate, refl, sym, ◌∙◌, ap, arith}
use Rattle.htl_model.proofs.Words.{bit_at, w128, bit_or, nat_tests, bit_at_or, bit_at-lt, bit_at-zero, bit_at-suc, bit_at_lowest, bit_at_set_same, bit_at_set_other, has_bit, cell, all_zero}

joined : (x y : ℕ) → x < 2 → y < 2 → eqb (max x y) 1 ≡ (eqb x 1 || eqb y 1)
joined zero (suc (suc y)) p q = absurd (omega arith)
joined (suc zero) (suc (suc y)) p q = absurd (omega arith)
joined (suc (suc x)) y p q = absurd (omega arith)
joined _ _ p q = refl

pub has_bit_or : (a b q : ℕ) → has_bit (bit_or a b) q ≡ (has_bit a q || has_bit b q)
has_bit_or a b q = ap (λ x. eqb x 1) (bit_at_or a b q) ∙ joined (bit_at a q) (bit_at b q) (bit_at-lt a q) (bit_at-lt b q)

pub has_bit_set : (row k q : ℕ) → k < 128 → has_bit (bit_or row (1 * 2 ^ k % 2 ^ 128)) q ≡ (has_bit row q || eqb q k)
has_bit_set row k q h = by (eqb q k) refl
  where
    on_right : (b : Bool) → true ≡ (b || true)
    on_right true = refl
    on_right false = refl

    nothing : (b : Bool) → b ≡ (b || false)
    nothing true = refl
    nothing false = refl

    by : (b : Bool) → eqb q k ≡ b → has_bit (bit_or row (1 * 2 ^ k % 2 ^ 128)) q ≡ (has_bit row q || b)
    by true e =
        let is : q ≡ k = grind (arith, nat_tests) in
        ap (λ x. has_bit (bit_or row (1 * 2 ^ k % 2 ^ 128)) x) is ∙ ap (λ x. eqb x 1) (bit_at_set_same w128 row k h) ∙ on_right (has_bit row q)
    by false e =
        let apart : q ≢ k = grind (arith, nat_tests) in
        ap (λ x. eqb x 1) (bit_at_set_other w128 row k h q apart) ∙ nothing (has_bit row q)

pub has_no_bit : (q : ℕ) → has_bit 0 q ≡ false
has_no_bit q = ap (λ x. eqb x 1) (bit_at-zero q)

-- rows of zeros
pub no_bits : (n p q : ℕ) → cell (replicate n 0) p q ≡ false
no_bits n p q = ap (λ x. has_bit x q) (all_zero n p) ∙ has_no_bit q

-- numbers with the same bits are the same
same_digit : (a b : ℕ) → a < 2 → b < 2 → eqb a 1 ≡ eqb b 1 → a ≡ b
same_digit zero (suc zero) p q e = cc
same_digit zero (suc (suc b)) p q e = absurd (omega arith)
same_digit (suc zero) zero p q e = cc
same_digit (suc zero) (suc (suc b)) p q e = absurd (omega arith)
same_digit (suc (suc a)) b p q e = absurd (omega arith)
same_digit _ _ p q e = refl

same_to : (n x y : ℕ) → x ≤ n → y ≤ n → ((q : ℕ) → has_bit x q ≡ has_bit y q) → x ≡ y
same_to zero x y a b h = omega arith
same_to (suc n) x y a b h =
    let low : x % 2 ≡ y % 2 = sym (bit_at_lowest x) ∙ same_digit (bit_at x 0) (bit_at y 0) (bit_at-lt x 0) (bit_at-lt y 0) (h 0) ∙ bit_at_lowest y in
    let high : x / 2 ≡ y / 2 = same_to n (x / 2) (y / 2) (omega arith) (omega arith)
    (λ q. sym (ap (λ z. eqb z 1) (bit_at-suc x q)) ∙ h (suc q) ∙ ap (λ z. eqb z 1) (bit_at-suc y q)) in
    omega arith

pub same_row : (x y : ℕ) → ((q : ℕ) → has_bit x q ≡ has_bit y q) → x ≡ y
same_row x y h = same_to (max x y) x y (omega arith) (omega arith) h
