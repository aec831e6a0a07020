-- What stands at one place of a text.
use Rattle.std.specs.Prelude.{ℕ, ◌≡◌, ◌<◌, Bool, true, false, ◌&&◌, ◌==◌, cond, max, Option, None, Some, List, [], ◌∷◌, length, take, slice_index, is_some}
use Rattle.std.specs.{Char.is_ascii_digit, List.prefix_len, Option.option_map}
use Rattle.htl_base.specs.Names.{is_letter, is_word_byte}
use Rattle.htl_text.specs.{Spans.is_blank, Kinds.kind_of, Texts.sign_of, Texts.token_of, Texts.is_numeral, declared.scan.Front.Front, declared.token.Sign.Sign}
use Rattle.htl_text.specs.declared.scan.Front.TheVariants as front

-- what follows blanks and comments; the text begins within a comment, or not
abbrev pub skip : Bool → List ℕ → List ℕ
skip comment [] = []
skip true (b ∷ bs) = cond (b == 10) (skip false bs) (skip true bs)
skip false (b ∷ bs) = cond (is_blank b) (skip false bs) (cond ((b == 47) && (slice_index bs 0 == 47)) (skip true bs) (b ∷ bs))

-- how long the name, the number and the sign are with which a text begins; 0 where it begins with none
abbrev pub name_len : List ℕ → ℕ
name_len text = cond (is_letter (slice_index text 0)) (prefix_len is_word_byte text) 0

abbrev pub number_len : List ℕ → ℕ
number_len text = prefix_len is_ascii_digit text

abbrev pub sign_len : List ℕ → ℕ
sign_len text = cond (is_some (sign_of (take 2 text))) (length (take 2 text)) (cond (is_some (sign_of (take 1 text))) (length (take 1 text)) 0)

abbrev pub token_len : List ℕ → ℕ
token_len text = max (name_len text) (max (number_len text) (sign_len text))

-- no blank stands first
abbrev pub BeginsSolid : List ℕ → Type 0
BeginsSolid [] = Unit {0}
BeginsSolid (b ∷ bs) = is_blank b ≡ false

-- the sign of this length is the longest with which the text begins
abbrev pub IsFrontSign : List ℕ → Option (Sign × ℕ) → Type 0
IsFrontSign text None = sign_len text ≡ 0
IsFrontSign text (Some found) = (0 < found.1) × (found.1 ≡ sign_len text) × (sign_of (take found.1 text) ≡ Some found.0)

-- the token of this kind and length is the longest with which the text begins; or that one is out of its range, or there is none
abbrev pub IsFront : List ℕ → Front → Type 0
IsFront text (front.Token kind len) = (0 < len) × (len ≡ token_len text) × (option_map kind_of (token_of (take len text)) ≡ Some kind)
IsFront text front.Nothing = token_len text ≡ 0
IsFront text front.LargeNumber = (0 < token_len text) × (is_numeral (take (token_len text) text) ≡ true) × (token_of (take (token_len text) text) ≡ None)
IsFront text front.LongName = (0 < token_len text) × (is_numeral (take (token_len text) text) ≡ false) × (token_of (take (token_len text) text) ≡ None)
