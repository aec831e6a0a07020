-- Laws over all texts.
use Rattle.std.specs.Prelude.{ℕ, ◌≡◌, List, length}
use Rattle.htl_text.specs.{PrintedBytes.printed_bytes, Spans.Tokens, Spans.Faults, Spellable.AreSpellable, TokenLists.TokenList, declared.lexer.LexFault.LexFault, declared.token.Token.Token}

-- a text has one list of tokens
abbrev pub OneTokenList : Type 0
OneTokenList = (bytes : List ℕ) (t u : TokenList) → Tokens bytes t → Tokens bytes u → t ≡ u

-- a text has one first fault
abbrev pub OneFault : Type 0
OneFault = (bytes : List ℕ) (f g : LexFault) → Faults bytes f → Faults bytes g → f ≡ g

-- a text that has tokens has no fault
abbrev pub TokensOrFault : Type 0
TokensOrFault = (bytes : List ℕ) (t : TokenList) (f : LexFault) → Tokens bytes t → Faults bytes f → ⊥

-- the tokens of a text are such as a text can spell
abbrev pub TokensSpellable : Type 0
TokensSpellable = (bytes : List ℕ) (t : TokenList) → Tokens bytes t → AreSpellable t.tokens

-- what is printed has the tokens that were printed
abbrev pub PrintedTokens : Type 0
PrintedTokens =
    (ts : List Token) → AreSpellable ts
    → (offsets : List ℕ) × Tokens (printed_bytes ts) (record { tokens = ts; offsets = offsets; end = length (printed_bytes ts) })
