-- A script that is read in parts: what is still to come of it.
use Rattle.std.specs.Prelude.{ℕ, min, ◌+◌, ◌-◌, ◌*◌, ◌^◌, ◌≡◌, List, [], ◌∷◌, ◌++◌, Option, Some, None, Ok, Err, IfSome, ◌<◌, ◌≤◌, length}
use Rattle.std.specs.Io.KnownBytes.{prepend_known}
use Rattle.htl_model.specs.{declared.event.Event.Event, Tables.Tables}
use Rattle.htl_script.specs.declared.fault.ScriptKind.TheVariants as kind
use Rattle.htl_script.specs.{Lines.ScriptLine, Lines.size_of, Lines.feeds_of, Judging.past_after, Judging.judged, declared.judge.Past.Past, Script.Script, Script.Whole, Script.Bad, Script.listed}

-- a number and one more digit, where the number stands still at the end of 64 bits
abbrev pub with_digit_capped : ℕ → ℕ → ℕ
with_digit_capped n digit = min (min (n * 10) (2 ^ 64 - 1) + (digit - 48)) (2 ^ 64 - 1)

-- a script with more events before its own
abbrev pub behind : List Event → Script → Script
behind events (Whole later end) = Whole (events ++ later) end
behind events (Bad line kind later) = Bad line kind (events ++ later)

abbrev pub past_after_if : Past → Option Event → Past
past_after_if past None = past
past_after_if past (Some e) = past_after past e

-- the end of a script, behind the lines below number `line`
abbrev pub rest_at_end : ℕ → Past → Script
rest_at_end line past = elim past.end [ Some instant ↦ Whole [] instant | None ↦ Bad line kind.NoEnd [] ]

-- what the lines from number `line` on give, behind `start` bytes and what the events before them leave
abbrev pub rest_of_lines : Tables → ℕ → ℕ → Past → List ScriptLine → Script
rest_of_lines t line start past [] = rest_at_end line past
rest_of_lines t line start past (x ∷ xs) =
    elim (judged t start past x) [
      | Ok e ↦ behind (listed e) (rest_of_lines t (line + 1) (start + size_of x) (past_after_if past e) xs)
      | Err k ↦ Bad line k []
    ]

-- There is a script, namely the one that is known where it is, of which something holds.
abbrev pub OfScript : Option (List ℕ) → (List ℕ → Type 0) → Type 0
OfScript known fits = (script : List ℕ) × IfSome known (λ bytes. bytes ≡ script) × fits script

-- A source lost a front of what was left, of at most so many bytes, and whether that is told doesn't change.
abbrev pub LosesFront : ℕ → Option (List ℕ) → Option (List ℕ) → Type 0
LosesFront most old new = (front : List ℕ) × (length front ≤ most) × (prepend_known front new ≡ old)

-- A source lost bytes that end in line number `line` or before it, so that they have fewer line feeds, and then at most one piece of 256.
pub record StopsAtLine (line : ℕ) (old new : Option (List ℕ)) : Type 0 where
  pub lines : List ℕ
  pub piece : List ℕ
  pub lost : prepend_known (lines ++ piece) new ≡ old
  pub within : feeds_of lines < line
  pub few : length piece ≤ 256
