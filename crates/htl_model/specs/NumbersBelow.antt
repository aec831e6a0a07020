-- The numbers below a bound that pass a test.
use Rattle.std.specs.Prelude.{ℕ, zero, suc, ◌+◌, Bool, cond, List, [], ◌∷◌}

-- the numbers below n that pass, the greatest first
abbrev pub numbers_below : (ℕ → Bool) → ℕ → List ℕ
numbers_below p zero = []
numbers_below p (suc n) = cond (p n) (n ∷ numbers_below p n) (numbers_below p n)

-- how many they are
abbrev pub count_below : (ℕ → Bool) → ℕ → ℕ
count_below p zero = 0
count_below p (suc n) = count_below p n + cond (p n) 1 0
