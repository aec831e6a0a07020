-- The digits of small numbers, and tests of all numbers below one.
use Rattle.std.proofs.Common.{arith, ◌≡◌, ◌<◌, ◌+◌, ◌/◌, ◌%◌, ◌++◌, ◌∷◌, ◌∙◌, ◌&&◌, cond, ltb, ℕ, zero, suc, Bool, true, false, [], refl, sym, ap, inl, inr}
use Rattle.htl_bulk.proofs.Words.{and_parts, cases_below, decimal, decimal_digit, decimal_step, digits, nat_tests}

-- two digits are what `decimal` writes
pub digits_are : (k : ℕ) → k < 100 → digits k ≡ decimal k
digits_are k few = by (ltb k 10) refl
  where
    by : (b : Bool) → ltb k 10 ≡ b → cond b ((48 + k % 10) ∷ []) ((48 + k / 10) ∷ (48 + k % 10) ∷ []) ≡ decimal k
    by true e =
        let same : k % 10 ≡ k = grind (arith, nat_tests) in
        ap (λ d. (48 + d) ∷ []) same ∙ sym (decimal_digit k (grind (arith, nat_tests)))
    by false e =
        let high : k / 10 < 10 = omega (arith, few) in
        let step = decimal_step k (grind (arith, nat_tests)) (omega (arith, few)) in
        sym (step ∙ ap (λ ds. ds ++ (48 + k % 10) ∷ []) (decimal_digit (k / 10) high))

-- whether all numbers below one pass a test
abbrev pub passes : (ℕ → Bool) → ℕ → Bool
passes p zero = true
passes p (suc n) = p n && passes p n

pub passed : (p : ℕ → Bool) (n k : ℕ) → passes p n ≡ true → k < n → p k ≡ true
passed p zero k e h = absurd (omega (arith, h))
passed p (suc n) k e h =
    let both = and_parts (p n) (passes p n) e in
    elim (cases_below k n h) [ inl less ↦ passed p n k both.1 less | inr is ↦ let last = both.0 in let same = ap p is in cc ]
