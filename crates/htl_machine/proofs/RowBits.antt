-- One bit of a row of 64, set and cleared.
use Rattle.std.proofs.Common.{◌≡◌, ◌≢◌, ◌<◌, ℕ, ◌*◌, ◌%◌, ◌^◌, Bool, true, false, ◌||◌, cond, eqb, min, w64, bit_and, bit_or, refl, sym, ◌∙◌, ap, arith, inl, inr}
use Rattle.std.specs.Int.{bit_not}
use Rattle.std.proofs.lemmas.Nat.Bits.{bit_at_and, bit_at_above, bit_at_set_same, bit_at_set_other, bit_at_clear_same, bit_at_clear_other}
use Rattle.htl_machine.proofs.Words.{bit_at, nat_tests, or-false, or-true, cases_lt, has_bit}

-- a bit set
pub joined : (row p q : ℕ) → p < 64 → has_bit (bit_or row (1 * 2 ^ p % 2 ^ 64)) q ≡ (has_bit row q || eqb q p)
joined row p q room = by (eqb q p) refl
  where
    by : (b : Bool) → eqb q p ≡ b → has_bit (bit_or row (1 * 2 ^ p % 2 ^ 64)) q ≡ (has_bit row q || b)
    by true e =
        let is : q ≡ p = grind (arith, nat_tests) in
        ap (λ x. has_bit (bit_or row (1 * 2 ^ p % 2 ^ 64)) x) is ∙ ap (λ x. eqb x 1) (bit_at_set_same w64 row p room) ∙ sym (or-true (has_bit row q))
    by false e =
        let apart : q ≢ p = grind (arith, nat_tests) in
        ap (λ x. eqb x 1) (bit_at_set_other w64 row p room q apart) ∙ sym (or-false (has_bit row q))

-- a bit cleared
pub cleared : (row p q : ℕ) → p < 64 → row < 2 ^ 64 → has_bit (bit_and row (bit_not w64 (1 * 2 ^ p % 2 ^ 64))) q ≡ cond (eqb q p) false (has_bit row q)
cleared row p q room most = by (eqb q p) refl
  where
    none : (x : ℕ) → min 0 x ≡ 0
    none x = omega arith

    by : (b : Bool) → eqb q p ≡ b → has_bit (bit_and row (bit_not w64 (1 * 2 ^ p % 2 ^ 64))) q ≡ cond b false (has_bit row q)
    by true e =
        let is : q ≡ p = grind (arith, nat_tests) in
        ap (λ x. has_bit (bit_and row (bit_not w64 (1 * 2 ^ p % 2 ^ 64))) x) is ∙ ap (λ x. eqb x 1) (bit_at_clear_same w64 row p room)
    by false e =
        let apart : q ≢ p = grind (arith, nat_tests) in
        elim (cases_lt q 64) [
          | inl h ↦ ap (λ x. eqb x 1) (bit_at_clear_other w64 row p room q h apart)
          | inr h ↦
              ap (λ x. eqb x 1) (bit_at_and row (bit_not w64 (1 * 2 ^ p % 2 ^ 64)) q ∙ ap (λ x. min x (bit_at (bit_not w64 (1 * 2 ^ p % 2 ^ 64)) q)) (bit_at_above row 64 q most h) ∙ none _)
              ∙ sym (ap (λ x. eqb x 1) (bit_at_above row 64 q most h))
        ]
