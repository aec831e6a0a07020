-- What the calls of this crate answer.
use Rattle.std.specs.Prelude.{ℕ, ◌≡◌, ◌⊎◌, Result, Ok, Err, List}
use Rattle.htl_text.specs.{TokenLists.TokenList, Spans.Tokens, Spans.Faults, Entries.AreKept, Entries.list_in, declared.entry.Entry.Entry, declared.lexer.LexFault.LexFault}
use Rattle.htl_text.specs.declared.lexer.LexFault.TheVariants as fault

-- the tokens of the text, or its first fault
abbrev pub IsLexed : List ℕ → Result TokenList LexFault → Type 0
IsLexed bytes (Ok tokens) = Tokens bytes tokens
IsLexed bytes (Err (fault.Char offset)) = Faults bytes (fault.Char offset)
IsLexed bytes (Err (fault.Number offset)) = Faults bytes (fault.Number offset)
IsLexed bytes (Err (fault.NameLong offset)) = Faults bytes (fault.NameLong offset)
IsLexed bytes (Err fault.Memory) = Unit {0}

-- where the text has tokens they are the answer, unless memory was wanting
abbrev pub TellsTokens : List ℕ → Result TokenList LexFault → Type 0
TellsTokens bytes result = (tokens : TokenList) → Tokens bytes tokens → (result ≡ Ok tokens) ⊎ (result ≡ Err fault.Memory)

-- where the text has a fault the first one is the answer, unless memory was wanting
abbrev pub TellsFault : List ℕ → Result TokenList LexFault → Type 0
TellsFault bytes result = (f : LexFault) → Faults bytes f → (result ≡ Err f) ⊎ (result ≡ Err fault.Memory)

-- the entries are those of all tokens of the text
abbrev pub AreAll : List ℕ → List Entry → Type 0
AreAll bytes entries = AreKept bytes entries × Tokens bytes (list_in bytes entries)
