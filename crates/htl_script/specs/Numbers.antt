-- The numbers in the lines of a script.
use Rattle.std.specs.Prelude.{ℕ, ◌+◌, ◌-◌, ◌*◌, Bool, true, false, ◌&&◌, ◌||◌, not, List, [], ◌∷◌, Option, Some, None, length, slice_index, nat_lt, ◌==◌, if◌then◌else◌}
use Rattle.std.specs.{List.list_all, List.fold, Char.is_ascii_digit, Option.option_map}

-- decimal digits, at least one, with no zero before others
abbrev pub is_numeral : List ℕ → Bool
is_numeral field = nat_lt 0 (length field) && (not (slice_index field 0 == 48) || (length field == 1)) && list_all is_ascii_digit field

-- a number, and one more digit
abbrev pub with_digit : ℕ → ℕ → ℕ
with_digit n digit = n * 10 + (digit - 48)

-- the number that a field spells, however large
abbrev pub number_of : List ℕ → Option ℕ
number_of field = if is_numeral field then Some (fold with_digit 0 field) else None

abbrev pub less_than_zero : Option ℕ → Option (Bool × ℕ)
less_than_zero None = None
less_than_zero (Some n) = if n == 0 then None else Some (true, n)

-- whether a `-` stands before the number, which is nonzero then, and the number without it
abbrev pub signed_of : List ℕ → Option (Bool × ℕ)
signed_of [] = None
signed_of (b ∷ bs) = if b == 45 then less_than_zero (number_of bs) else option_map (λ (n : ℕ). (false, n)) (number_of (b ∷ bs))
