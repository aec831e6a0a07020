-- Sums over positions and counts over ticks.
use Rattle.std.specs.Prelude.{ℕ, zero, suc, ◌+◌, Bool, true, false}

-- f 0 + .. + f (n - 1)
abbrev pub sum_below : (ℕ → ℕ) → ℕ → ℕ
sum_below f zero = 0
sum_below f (suc n) = sum_below f n + f n

-- 1 for yes, 0 for no
abbrev pub bit : Bool → ℕ
bit true = 1
bit false = 0
