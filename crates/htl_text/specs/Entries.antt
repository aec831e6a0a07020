-- Tokens as they are kept, over the source that has their texts.
use Rattle.std.specs.Prelude.{ℕ, pos, ◌+◌, ◌≤◌, ◌≡◌, Option, Some, List, length, map, take, drop, slice_get}
use Rattle.std.specs.{Option.option_map, Str.Parse.digits_value}
use Rattle.htl_text.specs.{Texts.token_of, TokenLists.AreHeld, TokenLists.TokenList, declared.entry.Entry.Entry, declared.token.Kind.Kind, declared.token.Token.Token}
use Rattle.htl_text.specs.declared.token.Kind.TheVariants as kind
use Rattle.htl_text.specs.declared.token.Token.TheVariants as token

-- the text of a token
abbrev pub text_in : List ℕ → Entry → List ℕ
text_in source entry = take entry.len (drop entry.offset source)

-- the token of a kind that a text spells
abbrev pub spelled : Kind → List ℕ → Token
spelled kind.Ident text = token.Ident text
spelled kind.Number text = token.Number (pos (digits_value 10 text))
spelled (kind.Word w) text = token.Word w
spelled (kind.Sign s) text = token.Sign s

abbrev pub token_in : List ℕ → Entry → Token
token_in source entry = spelled entry.kind (text_in source entry)

abbrev pub tokens_in : List ℕ → List Entry → List Token
tokens_in source entries = map (token_in source) entries

-- what the token at a place is
abbrev pub kind_at : List Entry → ℕ → Option Kind
kind_at entries place = option_map (λ (entry : Entry). entry.kind) (slice_get entries place)

abbrev pub offsets_of : List Entry → List ℕ
offsets_of entries = map (λ (entry : Entry). entry.offset) entries

-- the source has the text of the entry's token
abbrev pub IsKept : List ℕ → Entry → Type 0
IsKept source entry = (entry.offset + entry.len ≤ length source) × (token_of (text_in source entry) ≡ Some (token_in source entry))

-- the tokens of all entries, with their places
abbrev pub list_in : List ℕ → List Entry → TokenList
list_in source entries = record { tokens = tokens_in source entries; offsets = offsets_of entries; end = length source }

-- the entries are those of tokens, and the source has their texts
pub record AreKept (source : List ℕ) (entries : List Entry) : Type 0 where
  pub held : AreHeld (tokens_in source entries) (offsets_of entries)
  pub kept : (place : ℕ) (entry : Entry) → slice_get entries place ≡ Some entry → IsKept source entry
