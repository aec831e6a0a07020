-- Single tokens, types and constants: what is spelled so is read.
use Rattle.std.proofs.Common.{◌≡◌, false, List, ◌∷◌, Option, None, Ok, refl, ap}
use Rattle.std.specs.Prelude.{◌==◌}
use Rattle.htl_parse.proofs.Words.{Ty, word_code, Placed, Put, SpellsType, int, bool, SpellsConst, positive, SpellsClause, absent, present, Word, Id, ConstNode}
use Rattle.htl_parse.specs.Reading.{type_at, const_at, clause_by, clause_at}
use Rattle.htl_parse.proofs.Coding.{code-same}
use Rattle.htl_text.specs.declared.token.Token.TheVariants as token

pub type-complete : {ts : List Placed} {t : Ty} {rest : List Placed} → SpellsType ts t rest → type_at ts ≡ Ok (t, rest)
type-complete int = refl
type-complete bool = refl

pub const-complete : {ts : List Placed} {c : ConstNode} {rest : List Placed} → SpellsConst ts c rest → const_at ts ≡ Ok (c, rest)
const-complete positive = refl
const-complete _ = refl

-- this word doesn't stand next
abbrev pub IsOther : Word → List Placed → Type 0
IsOther wanted (Put k (token.Word w) ∷ ts) = (word_code w == word_code wanted) ≡ false
IsOther wanted ts = Unit {0}

clause-none : (wanted : Word) (ts : List Placed) → IsOther wanted ts → clause_at wanted ts ≡ Ok (None, ts)
clause-none wanted (Put k (token.Word w) ∷ ts) other = ap (clause_by (Put k (token.Word w) ∷ ts) ts) other
clause-none wanted ts other = refl

pub clause-complete : (wanted : Word) {ts : List Placed} {o : Option Id} {rest : List Placed} → SpellsClause wanted ts o rest → IsOther wanted rest → clause_at wanted ts ≡ Ok (o, rest)
clause-complete wanted (absent {rest}) other = clause-none wanted rest other
clause-complete wanted (present {k} {m} {n} {rest}) other =
    ap (clause_by (Put k (token.Word wanted) ∷ Put m (token.Ident n) ∷ rest) (Put m (token.Ident n) ∷ rest)) (code-same (word_code wanted))
