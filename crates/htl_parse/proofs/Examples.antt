-- Tokens that begin a source, and the first with which they begin none, as the definitions compute them.
use Rattle.std.proofs.Common.{List, [], ◌∷◌, ◌++◌, refl}
use Rattle.htl_parse.proofs.{Words.Put, Words.source, Words.program, Words.no_other, Words.Token, Words.Begins, Words.IsMisfit, Stopping.misfit-left}
use Rattle.htl_text.specs.declared.token.Token.TheVariants as token
use Rattle.htl_text.specs.declared.token.Sign.TheVariants as sign
use Rattle.htl_text.specs.declared.token.Word.TheVariants as word
use Rattle.htl_parse.specs.ReadingStatements.{program_at, source_at}

abbrev head : List Token
head = token.Word word.Program ∷ token.Ident (80 ∷ []) ∷ []

abbrev braces : List Token
braces = token.Sign sign.OpenBrace ∷ token.Sign sign.CloseBrace ∷ []

-- nothing, `program P` and `program P {` begin a source
empty-begins : Begins []
empty-begins = (head ++ braces, (_, source (program no_other no_other) no_other))

head-begins : Begins head
head-begins = (braces, (_, source (program no_other no_other) no_other))

brace-begins : Begins (head ++ token.Sign sign.OpenBrace ∷ [])
brace-begins = (token.Sign sign.CloseBrace ∷ [], (_, source (program no_other no_other) no_other))

-- in `program P ;` it is the token 2; in `program P {` and in the empty source it is their number
semicolon-misfit : IsMisfit (head ++ token.Sign sign.Semicolon ∷ []) 2
unfolding source_at program_at
semicolon-misfit = (misfit-left (head ++ token.Sign sign.Semicolon ∷ []) (Put 2 (token.Sign sign.Semicolon) ∷ []) refl).misfit

brace-misfit : IsMisfit (head ++ token.Sign sign.OpenBrace ∷ []) 3
unfolding source_at program_at
brace-misfit = (misfit-left (head ++ token.Sign sign.OpenBrace ∷ []) [] refl).misfit

empty-misfit : IsMisfit [] 0
unfolding source_at program_at
empty-misfit = (misfit-left [] [] refl).misfit
