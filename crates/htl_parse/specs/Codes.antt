-- A number for each sign and each reserved word, by which they are compared.
use Rattle.std.specs.Prelude.{ℕ}
use Rattle.htl_text.specs.{declared.token.Sign.Sign, declared.token.Word.Word}
use Rattle.htl_text.specs.declared.token.Sign.TheVariants as sign
use Rattle.htl_text.specs.declared.token.Word.TheVariants as word

abbrev pub sign_code : Sign → ℕ
sign_code sign.OpenBrace = 0
sign_code sign.CloseBrace = 1
sign_code sign.OpenParen = 2
sign_code sign.CloseParen = 3
sign_code sign.Semicolon = 4
sign_code sign.Comma = 5
sign_code sign.Assign = 6
sign_code sign.Equal = 7
sign_code sign.NotEqual = 8
sign_code sign.Less = 9
sign_code sign.LessEqual = 10
sign_code sign.Greater = 11
sign_code sign.GreaterEqual = 12
sign_code sign.Plus = 13
sign_code sign.Minus = 14
sign_code sign.Star = 15
sign_code sign.Slash = 16
sign_code sign.Percent = 17
sign_code sign.Not = 18
sign_code sign.And = 19
sign_code sign.Or = 20

abbrev pub word_code : Word → ℕ
word_code word.Program = 0
word_code word.Communicator = 1
word_code word.Sensor = 2
word_code word.Module = 3
word_code word.Start = 4
word_code word.Abstract = 5
word_code word.Task = 6
word_code word.Input = 7
word_code word.Output = 8
word_code word.Worst = 9
word_code word.Mode = 10
word_code word.Period = 11
word_code word.Port = 12
word_code word.Invoke = 13
word_code word.Parent = 14
word_code word.Switch = 15
word_code word.Init = 16
word_code word.Int = 17
word_code word.Bool = 18
word_code word.True = 19
word_code word.False = 20
word_code word.If = 21
