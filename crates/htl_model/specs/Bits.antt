-- Rows of bits.
use Rattle.std.specs.{Prelude.ℕ, Prelude.Bool, Prelude.eqb, Prelude.List, Prelude.get_or, Int.bit_at}

abbrev pub has_bit : ℕ → ℕ → Bool
has_bit row k = eqb (bit_at row k) 1

-- whether row a has bit b
abbrev pub cell : List ℕ → ℕ → ℕ → Bool
cell rows a b = has_bit (get_or rows a 0) b
