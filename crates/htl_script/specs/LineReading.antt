-- Lines that are read one by one, over bytes that were read ahead.
use Rattle.std.specs.Prelude.{ℕ, ◌+◌, ◌≤◌, ◌<◌, ◌⊎◌, ◌≡◌, Bool, true, false, not, Option, Some, None, List, [], ◌∷◌, ◌++◌, length, drop, All, Ok, Err, ◌==◌, if◌then◌else◌}
use Rattle.std.specs.{declared.result.Result.Result, Io.KnownBytes.prepend_known, Io.KnownBytes.IsAtEnd}
use Rattle.htl_base.specs.declared.limits.TheConstants.{MAX_LINE, MAX_SCRIPT}
use Rattle.htl_script.specs.{declared.fault.ScriptKind.ScriptKind, declared.fault.ScriptStop.ScriptStop, Lines.ScriptLine, Lines.is_line_feed, Lines.lines_of, Lines.size_of, Lines.is_past_limit, Lines.is_long, Lines.feeds_of}
use Rattle.htl_script.specs.declared.fault.ScriptKind.TheVariants as kind
use Rattle.htl_script.specs.declared.fault.ScriptStop.TheVariants as stop

-- the bytes that were read ahead, and whether the source was seen to have no more
pub record Pending : Type 0 where
  pub bytes : List ℕ
  pub over : Bool

-- the number of the line that is being read, the bytes before it, and what was read of it
pub record Place : Type 0 where
  pub number : ℕ
  pub start : ℕ
  pub line : List ℕ

pub record IsLinePlace (p : Place) : Type 0 where
  pub counted : p.number ≤ p.start + 1
  pub small : p.start + length p.line ≤ MAX_SCRIPT
  pub plain : All (λ b. is_line_feed b ≡ false) p.line
  pub short : length p.line ≤ MAX_LINE

-- where a reader of lines is, and what it has read ahead
pub record LinesAhead : Type 0 where
  pub place : Place
  pub ahead : Pending

abbrev pub first_place : Place
first_place = record { number = 1; start = 0; line = [] }

abbrev pub nothing_read : Pending
nothing_read = record { bytes = []; over = false }

-- ---- bytes

-- The first of the bytes that were read ahead, or of those that the source then gave; none at the end of the input, past which nothing
-- is read. After a failure nothing was read.
abbrev pub SeesByte : {E : Type 0} → Pending → Pending → Option (List ℕ) → Option (List ℕ) → Result (Option ℕ) E → Type 0
SeesByte old new rest left (Ok (Some b)) =
    (front : List ℕ) × (prepend_known front left ≡ rest) × (old.bytes ++ front ≡ new.bytes) × (new.bytes ≡ b ∷ drop 1 new.bytes) × (old.over ≡ false) × (new.over ≡ false)
SeesByte old new rest left (Ok None) = (old.bytes ≡ []) × (new.bytes ≡ []) × (left ≡ rest) × (new.over ≡ true) × (old.over ≡ false → IsAtEnd rest)
SeesByte old new rest left (Err e) = (old.bytes ≡ []) × (new.bytes ≡ []) × (left ≡ rest) × (old.over ≡ false) × (new.over ≡ false)

-- The source gave a front of what it had; nothing was given exactly at its end. After a failure nothing was taken.
abbrev pub Fills : {T E : Type 0} → List ℕ → Option (List ℕ) → Option (List ℕ) → Result T E → Type 0
Fills new rest left (Ok x) = (prepend_known new left ≡ rest) × (new ≡ [] → IsAtEnd rest)
Fills new rest left (Err e) = (new ≡ []) × (left ≡ rest)

-- ---- a line

-- the first rule on its size that a line breaks, which begins behind `start` bytes
abbrev pub size_fault : ℕ → ScriptLine → Option ScriptKind
size_fault start x =
    if is_past_limit start x then Some kind.Size
    else if is_long x then Some kind.Long
    else None

-- what is left from the beginning of the line on, where these bytes follow
abbrev pub text_of : LinesAhead → List ℕ → List ℕ
text_of a later = a.place.line ++ (a.ahead.bytes ++ later)

-- Whether a line ends before a byte, goes on with it, or has one byte too many by it.
abbrev pub StopsBefore : Place → ℕ → Result Bool ScriptKind → Type 0
StopsBefore p b (Ok true) = (b ≡ 10) × (p.start + length p.line < MAX_SCRIPT)
StopsBefore p b (Ok false) = (is_line_feed b ≡ false) × (length p.line < MAX_LINE) × (p.start + length p.line < MAX_SCRIPT)
StopsBefore p b (Err k) =
    ((k ≡ kind.Size) × (p.start + length p.line ≡ MAX_SCRIPT))
    ⊎ ((k ≡ kind.Long) × (is_line_feed b ≡ false) × (length p.line ≡ MAX_LINE) × (p.start + length p.line < MAX_SCRIPT))

-- how many bytes of the source were taken so far
abbrev pub bytes_taken : LinesAhead → ℕ
bytes_taken a = a.place.start + length a.place.line + length a.ahead.bytes

-- the line that was read, where it ends here
abbrev pub line_in : LinesAhead → ScriptLine
line_in a = record { text = a.place.line; fed = not (length a.ahead.bytes == 0) }

-- the reader behind it
abbrev pub behind_line : LinesAhead → LinesAhead
behind_line a =
    record {
      place = record { number = a.place.number + 1; start = a.place.start + size_of (line_in a); line = [] };
      ahead = record { bytes = drop 1 a.ahead.bytes; over = a.ahead.over };
    }

-- A line was read that breaks no rule on its size: it is the first of those that are left, whatever follows.
pub record IsAtLine (a : LinesAhead) : Type 0 where
  pub first : (later : List ℕ) → (a.ahead.over ≡ true → later ≡ []) → lines_of (text_of a later) ≡ line_in a ∷ lines_of (text_of (behind_line a) later)
  pub sized : size_fault a.place.start (line_in a) ≡ None
  pub room : a.place.start + size_of (line_in a) ≤ MAX_SCRIPT
  pub some : 1 ≤ size_of (line_in a)

-- The first of the lines that are left breaks this rule on its size, whatever follows.
abbrev pub IsRefused : LinesAhead → ScriptKind → Type 0
IsRefused a k = (later : List ℕ) → (x : ScriptLine) × (xs : List ScriptLine) × (lines_of (text_of a later) ≡ x ∷ xs) × (size_fault a.place.start x ≡ Some k)

-- What a reader of lines answers: a line was read, or the input has ended and none is left; or the line breaks a rule on its size, or
-- the source failed.
abbrev pub AnswersLine : LinesAhead → Result Bool ScriptStop → Type 0
AnswersLine a (Ok true) = IsAtLine a
AnswersLine a (Ok false) = (a.place.line ≡ []) × (a.ahead.bytes ≡ []) × (a.ahead.over ≡ true)
AnswersLine a (Err (stop.Script fault)) = (fault.line ≡ a.place.number) × IsRefused a fault.kind
AnswersLine a (Err stop.Read) = Unit {0}

-- Bytes that stood ahead, or that the source gave, were moved to the line, and the others stand ahead. Where the source was seen to have
-- no more, it has nothing, and no more is taken.
pub record ReadsOn (old new : LinesAhead) (rest left : Option (List ℕ)) : Type 0 where
  pub front : List ℕ
  pub lost : prepend_known front left ≡ rest
  pub run : List ℕ
  pub parts : old.ahead.bytes ++ front ≡ run ++ new.ahead.bytes
  pub plain : feeds_of run ≡ 0
  pub place : new.place ≡ record old.place { line = old.place.line ++ run }
  pub ends : (old.ahead.over ≡ true → IsAtEnd rest) → new.ahead.over ≡ true → IsAtEnd left
  pub kept : old.ahead.over ≡ true → (front ≡ []) × (new.ahead.over ≡ true)
