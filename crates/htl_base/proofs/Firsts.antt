-- The first number of a kind.
use Rattle.std.proofs.Common.{◌≡◌, ◌<◌, ℕ}
use Rattle.htl_base.proofs.Numbers.{same_from_neither}

-- a kind has one first number at most
pub first-unique : (P : ℕ → Type 0) (j k : ℕ) → P j → P k → ((i : ℕ) → i < j → P i → ⊥) → ((i : ℕ) → i < k → P i → ⊥) → j ≡ k
first-unique P j k p q first second = same_from_neither j k (λ less. second j less p) (λ less. first k less q)
