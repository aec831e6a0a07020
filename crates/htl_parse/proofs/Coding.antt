-- Different signs have different numbers, and so have words.
use Rattle.std.proofs.Common.{arith, ◌≡◌, ℕ, true, List, [], ◌∷◌, get_or, refl, sym, ap, ◌∙◌}
use Rattle.std.specs.Prelude.{◌==◌}
use Rattle.htl_parse.proofs.Words.{nat_tests, sign_code, word_code, Sign, Word}
use Rattle.htl_text.specs.declared.token.Sign.TheVariants as sign
use Rattle.htl_text.specs.declared.token.Word.TheVariants as word

abbrev signs : List Sign
signs = sign.OpenBrace ∷ sign.CloseBrace ∷ sign.OpenParen ∷ sign.CloseParen ∷ sign.Semicolon ∷ sign.Comma ∷ sign.Assign ∷ sign.Equal ∷ sign.NotEqual ∷ sign.Less ∷ sign.LessEqual ∷ sign.Greater ∷ sign.GreaterEqual ∷ sign.Plus ∷ sign.Minus ∷ sign.Star ∷ sign.Slash ∷ sign.Percent ∷ sign.Not ∷ sign.And ∷ sign.Or ∷ []

abbrev words : List Word
words = word.Program ∷ word.Communicator ∷ word.Sensor ∷ word.Module ∷ word.Start ∷ word.Abstract ∷ word.Task ∷ word.Input ∷ word.Output ∷ word.Worst ∷ word.Mode ∷ word.Period ∷ word.Port ∷ word.Invoke ∷ word.Parent ∷ word.Switch ∷ word.Init ∷ word.Int ∷ word.Bool ∷ word.True ∷ word.False ∷ word.If ∷ []

sign_back : (s : Sign) → get_or signs (sign_code s) sign.Comma ≡ s
sign_back sign.Comma = refl
sign_back s = refl

word_back : (w : Word) → get_or words (word_code w) word.If ≡ w
word_back word.If = refl
word_back w = refl

equal : (m n : ℕ) → (m == n) ≡ true → m ≡ n
equal m n e = grind (arith, nat_tests)

pub sign_code-equal : (s t : Sign) → (sign_code s == sign_code t) ≡ true → s ≡ t
sign_code-equal s t e =
    sym (sign_back s) ∙ ap (λ (n : ℕ). get_or signs n sign.Comma) (equal (sign_code s) (sign_code t) e) ∙ sign_back t

pub word_code-equal : (v w : Word) → (word_code v == word_code w) ≡ true → v ≡ w
word_code-equal v w e =
    sym (word_back v) ∙ ap (λ (n : ℕ). get_or words n word.If) (equal (word_code v) (word_code w) e) ∙ word_back w

pub code-same : (n : ℕ) → (n == n) ≡ true
code-same n = grind (arith, nat_tests)
