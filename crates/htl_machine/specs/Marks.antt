-- Numbers that are marked.
use Rattle.std.specs.Prelude.{ℕ, ◌/◌, ◌%◌, Bool, cond, get_or}
use Rattle.htl_model.specs.Bits.{has_bit}
use Rattle.htl_machine.specs.declared.marks.Marks.{Marks}

-- the marks of a row; none where it isn't in use
abbrev pub row_of : Marks → ℕ → ℕ
row_of m r = cond (has_bit m.used r) (get_or m.rows r 0) 0

unfoldable pub is_marked : Marks → ℕ → Bool
is_marked m k = has_bit (row_of m (k / 64)) (k % 64)
