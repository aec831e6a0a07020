-- What a token is, without the bytes of a name or the value of a number.
use Rattle.std.specs.Prelude.{◌≡◌, ℤ, ℕ, Option, None, Some, List, [], ◌∷◌}
use Rattle.htl_text.specs.{declared.token.Kind.Kind, declared.token.Token.Token}
use Rattle.htl_text.specs.declared.token.Kind.TheVariants as kind
use Rattle.htl_text.specs.declared.token.Token.TheVariants as token

abbrev pub kind_of : Token → Kind
kind_of (token.Ident n) = kind.Ident
kind_of (token.Number x) = kind.Number
kind_of (token.Word w) = kind.Word w
kind_of (token.Sign s) = kind.Sign s

-- The tokens begin with one of this kind, and then come the later ones; with no kind there are none.
abbrev pub FirstIs : Option Kind → List Token → List Token → Type 0
FirstIs None tokens later = tokens ≡ []
FirstIs (Some kind.Ident) tokens later = (n : List ℕ) × (tokens ≡ token.Ident n ∷ later)
FirstIs (Some kind.Number) tokens later = (x : ℤ) × (tokens ≡ token.Number x ∷ later)
FirstIs (Some (kind.Word w)) tokens later = tokens ≡ token.Word w ∷ later
FirstIs (Some (kind.Sign s)) tokens later = tokens ≡ token.Sign s ∷ later
