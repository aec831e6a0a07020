-- The bytes of printed tokens.
use Rattle.std.specs.Prelude.{◌≡◌, ℕ, Option, Some, List, [], ◌∷◌, ◌++◌, codes}
use Rattle.std.specs.{Fmt.signed_decimal, Io.KnownBytes.append_known, List.flat_map}
use Rattle.htl_text.specs.{declared.token.Token.Token, declared.token.Sign.Sign, declared.token.Word.Word}
use Rattle.htl_text.specs.declared.token.Token.TheVariants as token
use Rattle.htl_text.specs.declared.token.Sign.TheVariants as sign
use Rattle.htl_text.specs.declared.token.Word.TheVariants as word

abbrev pub word_text : Word → List ℕ
word_text word.Program = codes "program"
word_text word.Communicator = codes "communicator"
word_text word.Sensor = codes "sensor"
word_text word.Module = codes "module"
word_text word.Start = codes "start"
word_text word.Abstract = codes "abstract"
word_text word.Task = codes "task"
word_text word.Input = codes "input"
word_text word.Output = codes "output"
word_text word.Worst = codes "worst"
word_text word.Mode = codes "mode"
word_text word.Period = codes "period"
word_text word.Port = codes "port"
word_text word.Invoke = codes "invoke"
word_text word.Parent = codes "parent"
word_text word.Switch = codes "switch"
word_text word.Init = codes "init"
word_text word.Int = codes "int"
word_text word.Bool = codes "bool"
word_text word.True = codes "true"
word_text word.False = codes "false"
word_text word.If = codes "if"

abbrev pub sign_text : Sign → List ℕ
sign_text sign.OpenBrace = codes "{"
sign_text sign.CloseBrace = codes "}"
sign_text sign.OpenParen = codes "("
sign_text sign.CloseParen = codes ")"
sign_text sign.Semicolon = codes ";"
sign_text sign.Comma = codes ","
sign_text sign.Assign = codes "="
sign_text sign.Equal = codes "=="
sign_text sign.NotEqual = codes "!="
sign_text sign.Less = codes "<"
sign_text sign.LessEqual = codes "<="
sign_text sign.Greater = codes ">"
sign_text sign.GreaterEqual = codes ">="
sign_text sign.Plus = codes "+"
sign_text sign.Minus = codes "-"
sign_text sign.Star = codes "*"
sign_text sign.Slash = codes "/"
sign_text sign.Percent = codes "%"
sign_text sign.Not = codes "!"
sign_text sign.And = codes "&&"
sign_text sign.Or = codes "||"

-- a number without leading zeros
abbrev pub token_text : Token → List ℕ
token_text (token.Ident n) = n
token_text (token.Number x) = signed_decimal x
token_text (token.Word w) = word_text w
token_text (token.Sign s) = sign_text s

-- a line feed behind `;`, `{` and `}`, else a space
abbrev pub separator : Token → ℕ
separator (token.Sign sign.Semicolon) = 10
separator (token.Sign sign.OpenBrace) = 10
separator (token.Sign sign.CloseBrace) = 10
separator t = 32

abbrev pub token_bytes : Token → List ℕ
token_bytes t = token_text t ++ separator t ∷ []

unfoldable pub printed_bytes : List Token → List ℕ
printed_bytes ts = flat_map token_bytes ts

-- What was written grew by these bytes, unless memory was lacking: what it comes to with later bytes behind it, it
-- came to before with these and the later ones behind it.
abbrev pub Writes : List ℕ → Option (List ℕ) → Option (List ℕ) → Type 0
Writes bytes old new = (later all : List ℕ) → append_known new later ≡ Some all → append_known old (bytes ++ later) ≡ Some all

-- what was written grew by these tokens, unless memory was lacking, whatever other tokens follow
abbrev pub Adds : (List Token → List Token) → Option (List ℕ) → Option (List ℕ) → Type 0
Adds tokens old new = (more : List Token) (all : List ℕ) → append_known new (printed_bytes more) ≡ Some all → append_known old (printed_bytes (tokens more)) ≡ Some all
