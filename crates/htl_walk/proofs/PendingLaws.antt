-- The row of the positions with work left.
use Rattle.std.proofs.Common.{◌≡◌, ◌≢◌, ℕ, ◌*◌, ◌%◌, ◌^◌, ◌<◌, Bool, true, false, cond, ◌&&◌, eqb, ltb, List, length, get_or, min, refl, sym, ap, ◌∙◌, arith, inl, inr}
use Rattle.htl_walk.proofs.Words.{bit_at, bit_not, w128, bit_and, All, lt-ltb, le-ltb, cases_lt, nat_tests, get_or_past, and_le_r, bit_at_and, bit_at_above, bit_at_clear_same, bit_at_clear_other, has_bit, Job, ArePending, HasWork, work, worst_cases}
use Rattle.htl_walk.proofs.{Following.work_at, Placing.has_bit_and}

-- ---- the lowest bit of has_bit_and

pub both_fit : (a b : ℕ) → b < 2 ^ 128 → bit_and a b < 2 ^ 128
both_fit a b h = omega (arith, and_le_r a b)

pub both_set : (a b q : ℕ) → bit_at (bit_and a b) q ≡ 1 → (has_bit a q ≡ true) × (has_bit b q ≡ true)
both_set a b q e = by (has_bit a q) (has_bit b q) refl refl (sym (has_bit_and a b q) ∙ ap (λ x. eqb x 1) e)
  where
    by : (x y : Bool) → has_bit a q ≡ x → has_bit b q ≡ y → (has_bit a q && has_bit b q) ≡ true → (has_bit a q ≡ true) × (has_bit b q ≡ true)
    by true true f g h = (f, g)
    by _ _ f g h = cc

pub not_both : (a b q : ℕ) → bit_at (bit_and a b) q ≡ 0 → has_bit a q ≡ true → has_bit b q ≡ false
not_both a b q e f = by (has_bit b q) refl (sym (has_bit_and a b q) ∙ ap (λ x. eqb x 1) e)
  where
    by : (y : Bool) → has_bit b q ≡ y → (has_bit a q && has_bit b q) ≡ false → has_bit b q ≡ false
    by true g h = cc
    by false g h = g

-- ---- a bit cleared

pub cleared : (row p q : ℕ) → p < 128 → row < 2 ^ 128 → has_bit (bit_and row (bit_not w128 (1 * 2 ^ p % 2 ^ 128))) q ≡ cond (eqb q p) false (has_bit row q)
cleared row p q room most = by (eqb q p) refl
  where
    none : (x : ℕ) → min 0 x ≡ 0
    none x = omega arith

    by : (b : Bool) → eqb q p ≡ b → has_bit (bit_and row (bit_not w128 (1 * 2 ^ p % 2 ^ 128))) q ≡ cond b false (has_bit row q)
    by true e =
        let is : q ≡ p = grind (arith, nat_tests) in
        ap (λ x. has_bit (bit_and row (bit_not w128 (1 * 2 ^ p % 2 ^ 128))) x) is ∙ ap (λ x. eqb x 1) (bit_at_clear_same w128 row p room)
    by false e =
        elim (cases_lt q 128) [
          | inl h ↦ ap (λ x. eqb x 1) (bit_at_clear_other w128 row p room q h (grind (arith, nat_tests)))
          | inr h ↦
              ap (λ x. eqb x 1) (bit_at_and row (bit_not w128 (1 * 2 ^ p % 2 ^ 128)) q ∙ ap (λ x. min x (bit_at (bit_not w128 (1 * 2 ^ p % 2 ^ 128)) q)) (bit_at_above row 128 q most h) ∙ none _)
              ∙ sym (ap (λ x. eqb x 1) (bit_at_above row 128 q most h))
        ]

pub kept_pending : (row p q left : ℕ) → 0 < left → has_bit row q ≡ cond (eqb q p) (has_bit row p && ltb 0 left) (has_bit row q)
kept_pending row p q left some = grind (arith, lt-ltb)

pub not_kept : (row p q left new : ℕ) → left ≡ 0 → has_bit new q ≡ cond (eqb q p) false (has_bit row q) → has_bit new q ≡ cond (eqb q p) (has_bit row p && ltb 0 left) (has_bit row q)
not_kept row p q left new none e = grind (arith, le-ltb)

-- ---- after a dispatch, and at the start

pub pending_first : (jobs : List Job) (row n : ℕ) (left : List ℕ) → All HasWork jobs → left ≡ work jobs (worst_cases jobs) → length left ≡ length jobs → n ≡ length jobs
    → ((q : ℕ) → has_bit row q ≡ ltb q n) → ArePending row left
pending_first jobs row n left all is len count bits q = grind (arith, cases_lt, lt-ltb, work_at, le-ltb, get_or_past)
