-- The lines of a script.
use Rattle.std.specs.Prelude.{ℕ, ◌+◌, Bool, true, false, ◌&&◌, ◌||◌, List, [], ◌∷◌, length, slice_index, nat_lt, nat_le, ◌==◌, if◌then◌else◌, min}
use Rattle.std.specs.List.{slice_split, count_by}
use Rattle.htl_base.specs.declared.limits.TheConstants.{MAX_LINE, MAX_SCRIPT}

-- a line: its bytes, and whether a line feed ends it, as all but the last do
pub record ScriptLine : Type 0 where
  pub text : List ℕ
  pub fed : Bool

abbrev pub is_line_feed : ℕ → Bool
is_line_feed b = b == 10

-- how many line feeds bytes have
abbrev pub feeds_of : List ℕ → ℕ
feeds_of bytes = count_by is_line_feed bytes

-- the lines, where these are the parts between line feeds: an empty last part is no line
abbrev pub lines_of_parts : List (List ℕ) → List ScriptLine
lines_of_parts [] = []
lines_of_parts (part ∷ []) = if length part == 0 then [] else record { text = part; fed = false } ∷ []
lines_of_parts (part ∷ next ∷ parts) = record { text = part; fed = true } ∷ lines_of_parts (next ∷ parts)

abbrev pub lines_of : List ℕ → List ScriptLine
lines_of bytes = lines_of_parts (slice_split is_line_feed bytes)

-- how many bytes a line takes, its line feed counted
abbrev pub size_of : ScriptLine → ℕ
size_of line = length line.text + (if line.fed then 1 else 0)

-- byte 1,073,741,825 of the script is one of the line's first 256 bytes, where the line begins behind `start` bytes
abbrev pub is_past_limit : ℕ → ScriptLine → Bool
is_past_limit start line = nat_le start MAX_SCRIPT && nat_lt MAX_SCRIPT (start + min 256 (size_of line))

-- the line has a 256th byte
abbrev pub is_long : ScriptLine → Bool
is_long line = nat_lt MAX_LINE (length line.text)

-- the line is empty or begins with `#`
abbrev pub is_passed_over : List ℕ → Bool
is_passed_over text = (length text == 0) || (slice_index text 0 == 35)
