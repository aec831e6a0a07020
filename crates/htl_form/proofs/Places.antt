-- Items at places of a list.
use Rattle.std.proofs.Common.{◌≡◌, ℕ, zero, suc, get_or, replicate, refl}

-- a list of one item again and again
pub filled_at : {A : Type 0} (x : A) (n k : ℕ) → get_or (replicate n x) k x ≡ x
filled_at x zero k = refl
filled_at x (suc n) zero = refl
filled_at x (suc n) (suc k) = filled_at x n k
