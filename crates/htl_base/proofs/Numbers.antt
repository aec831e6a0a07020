-- Plain facts of numbers: their order by cases, products and remainders.
use Rattle.std.proofs.Common.{ap, arith, suc, sym, zero, ℕ, ◌*◌, ◌/◌, ◌<◌, ◌∙◌, ◌≡◌, ◌≤◌, ◌⊎◌, ◌+◌}
use Rattle.std.proofs.Math.Nat.{mul-div_cancel}

pub cases_at_most : (u n : ℕ) → u ≤ suc n → (u ≤ n) ⊎ (u ≡ suc n)
cases_at_most u n p = grind arith

pub cases_below : (a b : ℕ) → a < suc b → (a < b) ⊎ (a ≡ b)
cases_below a b h = grind arith

pub cases_less_more : (a b : ℕ) → (a < b) ⊎ ((b < a) ⊎ (a ≡ b))
cases_less_more a b = grind arith

pub cases_less_same : (a b : ℕ) → (a < b) ⊎ (a ≡ b) ⊎ (b < a)
cases_less_same a b = grind arith

pub cases_up_to : (k u : ℕ) → k ≤ u → (k < u) ⊎ (k ≡ u)
cases_up_to k u h = grind arith

pub product_parts : (a b : ℕ) → 0 < a * b → (0 < a) × (0 < b)
product_parts zero b h = absurd (omega (arith, h))
product_parts (suc a) zero h = let z : suc a * 0 ≡ 0 = omega arith in absurd (omega (arith, h, z))
product_parts (suc a) (suc b) h = (omega arith, omega arith)

pub round_down : (p n : ℕ) → p * (n / p) ≤ n
round_down zero n = omega arith
round_down (suc p) n = omega arith

pub same_from_neither : (j k : ℕ) → (j < k → ⊥) → (k < j → ⊥) → j ≡ k
same_from_neither j k one two = omega arith

pub times_grow : (p a b : ℕ) → a ≤ b → p * a ≤ p * b
times_grow p a b h = grind arith

pub times_same : (a b p : ℕ) → 0 < p → a * p ≡ b * p → a ≡ b
times_same a b p h e = sym (mul-div_cancel a h) ∙ ap (λ z. z / p) e ∙ mul-div_cancel b h

pub zero_down : (p : ℕ) → p * (0 / p) ≡ 0
zero_down zero = omega arith
zero_down (suc p) = omega arith

pub cases_below_next : (n m : ℕ) → n < m + 1 → (n < m) ⊎ (n ≡ m)
cases_below_next n m h = grind arith

pub cases_le : (a b : ℕ) → (a ≤ b) ⊎ (b < a)
cases_le a b = grind arith

pub grow_times : (a b n : ℕ) → a ≤ b → a * n ≤ b * n
grow_times a b n h = grind arith

pub one_more_time : (a b : ℕ) → suc a * b ≡ a * b + b
one_more_time a b = grind arith
