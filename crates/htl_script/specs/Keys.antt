-- A key of a name: a number by which most names differ.
use Rattle.std.specs.Prelude.{ℕ, ◌+◌, ◌*◌, ◌%◌, ◌^◌, List}
use Rattle.std.specs.List.{fold}

-- its bytes as digits to base 31, modulo 2 ^ 32 (Karp and Rabin, Efficient randomized pattern-matching algorithms, IBM J. Res. Dev. 31, 1987)
abbrev pub key_of : List ℕ → ℕ
key_of name = fold (λ k b. (k * 31 % 2 ^ 32 + b) % 2 ^ 32) 0 name

-- numbers, and beside each the key of its name
pub record Keyed : Type 0 where
  pub keys : List ℕ
  pub numbers : List ℕ
