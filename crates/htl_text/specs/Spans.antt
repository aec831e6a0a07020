-- The tokens of a text. Each is judged by itself: it is a token, no longer text at its place is one, it
-- isn't the beginning of a comment, and between tokens stand blanks and comments alone.
use Rattle.std.specs.Prelude.{ℕ, ◌+◌, ◌≡◌, ◌≤◌, ◌<◌, Bool, true, false, ◌||◌, ◌==◌, ◌^◌, Some, List, [], ◌∷◌, ◌++◌, length, take, slice_index}
use Rattle.std.specs.{List.zip, Str.Parse.digits_value}
use Rattle.htl_base.specs.Names.{is_identifier}
use Rattle.htl_text.specs.{Texts.is_token, Texts.is_numeral, Texts.token_of, TokenLists.TokenList, declared.token.Token.Token, declared.lexer.LexFault.LexFault}
use Rattle.htl_text.specs.declared.lexer.LexFault.TheVariants as fault

-- a space, a tab, a carriage return or a line feed
abbrev pub is_blank : ℕ → Bool
is_blank b = (b == 32) || (b == 9) || (b == 13) || (b == 10)

-- `Gap from to bytes`: blanks and comments alone; from and to say whether the bytes begin and end within a comment
pub data Gap : Bool → Bool → List ℕ → Type 0 where
  none : {c : Bool} → Gap c c []
  blank : {c : Bool} {b : ℕ} {bs : List ℕ} → is_blank b ≡ true → Gap false c bs → Gap false c (b ∷ bs)
  begin : {c : Bool} {bs : List ℕ} → Gap true c bs → Gap false c (47 ∷ 47 ∷ bs)
  inside : {c : Bool} {b : ℕ} {bs : List ℕ} → (b == 10) ≡ false → Gap true c bs → Gap true c (b ∷ bs)
  feed : {c : Bool} {bs : List ℕ} → Gap false c bs → Gap true c (10 ∷ bs)

-- the text before what follows is a token, the longest at its place, and no beginning of a comment
pub record IsSpan (text left : List ℕ) : Type 0 where
  pub token : is_token text ≡ true
  pub longest : (k : ℕ) → length text < k → k ≤ length (text ++ left) → is_token (take k (text ++ left)) ≡ false
  pub no_comment : text ≡ 47 ∷ [] → (slice_index left 0 == 47) ≡ false

-- a token and the place of its first byte
abbrev pub Item : Type 0
Item = Token × ℕ

-- From at on, the bytes are these tokens with their gaps, and then rest, which stands at end.
abbrev pub Cuts : ℕ → List ℕ → List Item → ℕ → List ℕ → Type 0
Cuts at bytes [] end rest = (end ≡ at) × (rest ≡ bytes)
Cuts at bytes (item ∷ items) end rest =
    (gap : List ℕ) × (text : List ℕ) × (left : List ℕ) × (bytes ≡ gap ++ (text ++ left)) × Gap false false gap × IsSpan text left
    × (token_of text ≡ Some item.0) × (item.1 ≡ at + length gap) × Cuts (at + length gap + length text) left items end rest

-- The text has these tokens: behind the last one stands a gap, maybe an open comment.
abbrev pub IsCut : List ℕ → List Item → Type 0
IsCut bytes items = (end : ℕ) × (rest : List ℕ) × (c : Bool) × Cuts 0 bytes items end rest × Gap false c rest

-- The tokens of a text with their places, and its length.
pub record Tokens (bytes : List ℕ) (t : TokenList) : Type 0 where
  pub paired : length t.offsets ≡ length t.tokens
  pub cut : IsCut bytes (zip t.tokens t.offsets)
  pub whole : t.end ≡ length bytes

-- what stands at this place is at fault: no token begins here, or the longest that does is a number or a name out of its range
abbrev pub IsFault : ℕ → List ℕ → LexFault → Type 0
IsFault at [] fault = ⊥
IsFault at (b ∷ bs) (fault.Char offset) =
    (offset ≡ at) × (is_blank b ≡ false) × ((k : ℕ) → k ≤ length (b ∷ bs) → is_token (take k (b ∷ bs)) ≡ false)
IsFault at (b ∷ bs) (fault.Number offset) =
    (offset ≡ at) × ((text : List ℕ) × (left : List ℕ) × (b ∷ bs ≡ text ++ left) × IsSpan text left × (is_numeral text ≡ true) × (2 ^ 63 ≤ digits_value 10 text))
IsFault at (b ∷ bs) (fault.NameLong offset) =
    (offset ≡ at) × ((text : List ℕ) × (left : List ℕ) × (b ∷ bs ≡ text ++ left) × IsSpan text left × (is_identifier text ≡ true) × (48 < length text))
IsFault at (b ∷ bs) fault.Memory = ⊥

-- The first fault of a text: up to it there are tokens.
abbrev pub Faults : List ℕ → LexFault → Type 0
Faults bytes fault =
    (items : List Item) × (end : ℕ) × (gap : List ℕ) × (rest : List ℕ) × Cuts 0 bytes items end (gap ++ rest) × Gap false false gap × IsFault (end + length gap) rest fault
