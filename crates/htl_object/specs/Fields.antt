-- The fields that several items have: how each is spelled, and how it is read.
use Rattle.std.specs.Prelude.{ℕ, ℤ, pos, Bool, true, false, cond, ◌==◌, ◌&&◌, ◌||◌, List, [], ◌∷◌, length, take, drop, Option, Some, None, Ok, nat_lt, nat_le}
use Rattle.std.specs.{Ordering.int_eq, Int.w16, Int.w32, Int.w64, Int.to_be_bytes, Int.cast_signed, Int.cast_unsigned}
use Rattle.htl_object.specs.{Common.MAX_PERIOD, Common.is_name, Common.Ty, declared.malformed.MalKind.TheVariants.Index, declared.malformed.MalKind.TheVariants.Spelling}
use Rattle.htl_base.specs.declared.Ty.TheVariants.{Int, Bool as Truth}
use Rattle.htl_object.specs.Reading.{Read, ◌>>=◌, bad_at, short, need, field_at, byte_at, number_at, tagged_at, plain_at}

-- ---- spelling

abbrev pub name_bytes : List ℕ → List ℕ
name_bytes name = length name ∷ name

abbrev pub type_bytes : Ty → List ℕ
type_bytes Int = 0 ∷ []
type_bytes Truth = 1 ∷ []

abbrev pub flag_bytes : Bool → List ℕ
flag_bytes false = 0 ∷ []
flag_bytes true = 1 ∷ []

abbrev pub value_bytes : ℤ → List ℕ
value_bytes x = to_be_bytes w64 (cast_unsigned w64 x)

abbrev pub option_bytes : Option ℕ → List ℕ
option_bytes None = to_be_bytes w16 65535
option_bytes (Some n) = to_be_bytes w16 n

-- ---- reading

abbrev pub name_at : List ℕ → Read (List ℕ)
name_at bytes =
    byte_at bytes >>= λ len rest.
    need (nat_le len (length rest)) short
    (need (is_name (take len rest)) (bad_at Spelling bytes) (Ok (take len rest, drop len rest)))

abbrev pub type_at : List ℕ → Read Ty
type_at = tagged_at ((0, plain_at Int) ∷ (1, plain_at Truth) ∷ [])

abbrev pub flag_at : List ℕ → Read Bool
flag_at = tagged_at ((0, plain_at false) ∷ (1, plain_at true) ∷ [])

abbrev pub value_at : List ℕ → Read ℤ
value_at bytes = number_at w64 bytes >>= λ n rest. Ok (cast_signed w64 n, rest)

-- a period or a worst case
abbrev pub is_span : ℕ → Bool
is_span n = nat_le 1 n && nat_le n MAX_PERIOD

abbrev pub span_at : List ℕ → Read ℕ
span_at = field_at Index is_span (number_at w32)

-- the number of an item of a list of so many
abbrev pub place_at : ℕ → List ℕ → Read ℕ
place_at count = field_at Index (λ n. nat_lt n count) (number_at w16)

-- an optional number
abbrev pub option_of : ℕ → Option ℕ
option_of n = cond (n == 65535) None (Some n)

abbrev pub option_at : List ℕ → Read (Option ℕ)
option_at bytes = number_at w16 bytes >>= λ n rest. Ok (option_of n, rest)

-- the number of an owner, which doesn't fall along the list
abbrev pub is_owner : ℕ → ℕ → ℕ → Bool
is_owner count least n = nat_lt n count && nat_le least n

abbrev pub owner_at : ℕ → ℕ → List ℕ → Read ℕ
owner_at count least = field_at Index (is_owner count least) (number_at w16)

-- a value of the type
abbrev pub is_of : Ty → ℤ → Bool
is_of Int x = true
is_of Truth x = int_eq x (pos 0) || int_eq x (pos 1)

abbrev pub init_at : Ty → List ℕ → Read ℤ
init_at ty = field_at Spelling (is_of ty) value_at
