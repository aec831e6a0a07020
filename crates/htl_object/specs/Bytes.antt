-- Bytes put one behind the other, where None is a lack of memory.
use Rattle.std.specs.Prelude.{◌≡◌, ℕ, Option, Some, List, ◌++◌}
use Rattle.std.specs.Io.KnownBytes.{append_known}

-- These bytes were put, unless memory was lacking: what it comes to with later bytes behind it, it came to before with
-- these and the later ones behind it.
abbrev pub Puts : List ℕ → Option (List ℕ) → Option (List ℕ) → Type 0
Puts bytes old new = (later all : List ℕ) → append_known new later ≡ Some all → append_known old (bytes ++ later) ≡ Some all
