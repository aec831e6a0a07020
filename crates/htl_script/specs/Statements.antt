-- What a line of a script says.
use Rattle.std.specs.Prelude.{ℕ, Bool, List, [], ◌∷◌, Option, None, length, ◌==◌, codes, if◌then◌else◌}
use Rattle.std.specs.{List.slice_split, Option.option_map, Str.bytes_eq}
use Rattle.htl_script.specs.Numbers.{number_of, signed_of}

-- One of the four forms, with numbers of any size. A sensor's value is a number with or without a `-`.
pub data Statement : Type 0 where
  At : (instant : ℕ) → Statement
  Sense : (name : List ℕ) (value : Bool × ℕ) → Statement
  Took : (name : List ℕ) (ticks : ℕ) → Statement
  End : (instant : ℕ) → Statement

abbrev pub is_space : ℕ → Bool
is_space b = b == 32

-- the fields of a line, which one space separates
abbrev pub fields_of : List ℕ → List (List ℕ)
fields_of text = slice_split is_space text

-- `at T` or `end T`
abbrev pub instant_statement : List ℕ → List ℕ → Option Statement
instant_statement word instant =
    if bytes_eq word (codes "at") then option_map At (number_of instant)
    else if bytes_eq word (codes "end") then option_map End (number_of instant)
    else None

-- `sense NAME X` or `took NAME N`, where the name isn't empty
abbrev pub named_statement : List ℕ → List ℕ → List ℕ → Option Statement
named_statement word name number =
    if length name == 0 then None
    else if bytes_eq word (codes "sense") then option_map (Sense name) (signed_of number)
    else if bytes_eq word (codes "took") then option_map (Took name) (number_of number)
    else None

-- the same by the fields behind the word
abbrev pub named_fields : List ℕ → List (List ℕ) → Option Statement
named_fields word (name ∷ number ∷ []) = named_statement word name number
named_fields word _ = None

-- a word, and what follows the space behind it: no number has a space
abbrev pub worded_statement : List ℕ → List ℕ → Option Statement
worded_statement word rest =
    if bytes_eq word (codes "at") then option_map At (number_of rest)
    else if bytes_eq word (codes "end") then option_map End (number_of rest)
    else named_fields word (fields_of rest)

abbrev pub statement_of_fields : List (List ℕ) → Option Statement
statement_of_fields (word ∷ instant ∷ []) = instant_statement word instant
statement_of_fields (word ∷ name ∷ number ∷ []) = named_statement word name number
statement_of_fields _ = None

-- what a line says, or none where it has none of the four forms
abbrev pub statement_of : List ℕ → Option Statement
statement_of text = statement_of_fields (fields_of text)
