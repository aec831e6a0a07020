-- The token that a text spells.
use Rattle.std.specs.Prelude.{ℕ, ℤ, pos, Bool, ◌&&◌, ◌||◌, ◌^◌, nat_lt, cond, Option, None, Some, List, [], ◌∷◌, length, codes, find, is_some}
use Rattle.std.specs.{Char.is_ascii_digit, List.list_all, Option.option_map, Str.bytes_eq, Str.Parse.digits_value}
use Rattle.htl_base.specs.Names.{is_identifier, is_name}
use Rattle.htl_text.specs.{declared.token.Word.Word as AWord, declared.token.Sign.Sign as ASign, declared.token.Token.Token}
use Rattle.htl_text.specs.declared.token.Word.TheVariants as word
use Rattle.htl_text.specs.declared.token.Sign.TheVariants as sign
use Rattle.htl_text.specs.declared.token.Token.TheVariants.{Ident, Number, Word, Sign}

-- the reserved words
abbrev pub words : List (List ℕ × AWord)
words = (codes "program", word.Program) ∷ (codes "communicator", word.Communicator) ∷ (codes "sensor", word.Sensor) ∷ (codes "module", word.Module) ∷ (codes "start", word.Start) ∷ (codes "abstract", word.Abstract) ∷ (codes "task", word.Task) ∷ (codes "input", word.Input) ∷ (codes "output", word.Output) ∷ (codes "worst", word.Worst) ∷ (codes "mode", word.Mode) ∷ (codes "period", word.Period) ∷ (codes "port", word.Port) ∷ (codes "invoke", word.Invoke) ∷ (codes "parent", word.Parent) ∷ (codes "switch", word.Switch) ∷ (codes "init", word.Init) ∷ (codes "int", word.Int) ∷ (codes "bool", word.Bool) ∷ (codes "true", word.True) ∷ (codes "false", word.False) ∷ (codes "if", word.If) ∷ []

abbrev pub signs : List (List ℕ × ASign)
signs = (codes "{", sign.OpenBrace) ∷ (codes "}", sign.CloseBrace) ∷ (codes "(", sign.OpenParen) ∷ (codes ")", sign.CloseParen) ∷ (codes ";", sign.Semicolon) ∷ (codes ",", sign.Comma) ∷ (codes "=", sign.Assign) ∷ (codes "==", sign.Equal) ∷ (codes "!=", sign.NotEqual) ∷ (codes "<", sign.Less) ∷ (codes "<=", sign.LessEqual) ∷ (codes ">", sign.Greater) ∷ (codes ">=", sign.GreaterEqual) ∷ (codes "+", sign.Plus) ∷ (codes "-", sign.Minus) ∷ (codes "*", sign.Star) ∷ (codes "/", sign.Slash) ∷ (codes "%", sign.Percent) ∷ (codes "!", sign.Not) ∷ (codes "&&", sign.And) ∷ (codes "||", sign.Or) ∷ []

-- what stands beside a spelling
abbrev pub look_up : {T : Type 0} → List (List ℕ × T) → List ℕ → Option T
look_up {T} es text = option_map (λ (e : List ℕ × T). e.1) (find (λ (e : List ℕ × T). bytes_eq e.0 text) es)

abbrev pub word_of : List ℕ → Option AWord
word_of text = look_up words text

abbrev pub sign_of : List ℕ → Option ASign
sign_of text = look_up signs text

-- a run of digits
abbrev pub is_numeral : List ℕ → Bool
is_numeral text = nat_lt 0 (length text) && list_all is_ascii_digit text

-- the number that digits write, where it is below 2^63
abbrev pub number_of : List ℕ → Option ℤ
number_of text = cond (nat_lt (digits_value 10 text) (2 ^ 63)) (Some (pos (digits_value 10 text))) None

-- an identifier, a number or a sign
abbrev pub is_token : List ℕ → Bool
is_token text = is_identifier text || is_numeral text || is_some (sign_of text)

-- some value, or another where there is none
abbrev pub or_else : {T : Type 0} → Option T → Option T → Option T
or_else None other = other
or_else (Some x) other = Some x

-- a number below 2^63, a reserved word, a sign or a name
abbrev pub token_of : List ℕ → Option Token
token_of text =
    cond (is_numeral text) (option_map Number (number_of text))
    (or_else (option_map Word (word_of text)) (or_else (option_map Sign (sign_of text)) (cond (is_name text) (Some (Ident text)) None)))
