-- The token with which a text begins, by its first byte.
use Rattle.std.proofs.Common.{arith, ◌≡◌, ◌≤◌, ◌<◌, ℕ, ℤ, zero, suc, ◌+◌, Bool, true, false, cond, not, ◌&&◌, List, [], ◌∷◌, length, take, Option, None, Some, is_some, refl, sym, subst, ap, ◌∙◌}
use Rattle.htl_text.proofs.Words.{slice_index, nat_lt, find, is_ascii_digit, prefix_len, list_all, option_map, bytes_eq, length-prefix_len, bytes_eq-Decides, nat_tests, is_letter, is_word_byte, is_identifier, is_reserved, is_name, kind_of, look_up, or_else, words, word_of, signs, sign_of, is_numeral, number_of, token_of, name_len, number_len, sign_len, token_len, IsFront, IsFrontSign, ASign, Token, Ident, Number, Word, Sign, AWord}
use Rattle.htl_text.proofs.{Cutting.look_up-none, Lengths.name-taken, Lengths.number-taken, Numbers.number_of-short, FirstFault.letter-digit}
use Rattle.htl_text.specs.declared.scan.Front.TheVariants as front
use Rattle.htl_text.specs.declared.token.Kind.TheVariants as kind

-- a table has no text that passes a test which no spelling passes
pub look_up-unlike : {T : Type 0} (q : List ℕ → Bool) (text : List ℕ) → q text ≡ true → (es : List (List ℕ × T)) → list_all (λ (e : List ℕ × T). not (q e.0)) es ≡ true → look_up es text ≡ None
look_up-unlike q text is [] all = refl
look_up-unlike {T} q text is (e ∷ es) all = by (bytes_eq e.0 text) refl (q e.0) refl all (λ rest. look_up-unlike q text is es rest)
  where
    clash : (d r : Bool) → d ≡ true → (not d && r) ≡ true → ⊥
    clash true r f g = cc
    clash false r f g = cc

    by : (c : Bool) → bytes_eq e.0 text ≡ c → (d : Bool) → q e.0 ≡ d → (not d && list_all (λ (x : List ℕ × T). not (q x.0)) es) ≡ true
        → (list_all (λ (x : List ℕ × T). not (q x.0)) es ≡ true → look_up es text ≡ None)
        → option_map (λ (x : List ℕ × T). x.1) (cond c (Some e) (find (λ (x : List ℕ × T). bytes_eq x.0 text) es)) ≡ None
    by false unequal false f rest later = later rest
    by false unequal true f rest later = absurd cc
    by true same d f rest later = grind (arith, bytes_eq-Decides, clash)

abbrev begins_with_letter : List ℕ → Bool
begins_with_letter text = is_letter (slice_index text 0)

abbrev begins_with_digit : List ℕ → Bool
begins_with_digit text = is_ascii_digit (slice_index text 0)

letter-word-byte : (b : ℕ) → is_letter b ≡ true → is_word_byte b ≡ true
letter-word-byte b e = grind (arith, nat_tests, e)

digit-no-letter : (b : ℕ) → is_ascii_digit b ≡ true → is_letter b ≡ false
digit-no-letter b e = grind (arith, nat_tests, e)

sign_len-none : (text : List ℕ) → sign_of (take 2 text) ≡ None → sign_of (take 1 text) ≡ None → sign_len text ≡ 0
sign_len-none text two one = grind (arith, is_some)

first-taken : (text : List ℕ) (n : ℕ) → 0 < n → slice_index (take n text) 0 ≡ slice_index text 0
first-taken text zero some = absurd (omega (arith, some))
first-taken [] (suc n) some = refl
first-taken (b ∷ bs) (suc n) some = refl

no-numeral : (w : List ℕ) → is_ascii_digit (slice_index w 0) ≡ false → is_numeral w ≡ false
no-numeral [] e = refl
no-numeral (c ∷ cs) e = grind (arith, nat_lt)

-- a text that begins with a letter begins with a name or a reserved word
pub record IsWordFront (text : List ℕ) (len : ℕ) : Type 0 where
  pub some : 0 < len
  pub longest : token_len text ≡ len
  pub no_number : is_numeral (take len text) ≡ false
  pub no_sign : sign_of (take len text) ≡ None
  pub identifier : is_identifier (take len text) ≡ true
  pub long : length (take len text) ≡ len

pub word-front : (text : List ℕ) → is_letter (slice_index text 0) ≡ true → IsWordFront text (prefix_len is_word_byte text)
word-front [] letter = absurd cc
word-front (b ∷ bs) letter =
    let text = b ∷ bs in
    let one : prefix_len is_word_byte text ≡ 1 + prefix_len is_word_byte bs = ap (λ (c : Bool). cond c (1 + prefix_len is_word_byte bs) 0) (letter-word-byte b letter) in
    let name : name_len text ≡ prefix_len is_word_byte text = ap (λ (c : Bool). cond c (prefix_len is_word_byte text) 0) letter in
    let number : number_len text ≡ 0 = ap (λ (c : Bool). cond c (1 + prefix_len is_ascii_digit bs) 0) (letter-digit b letter) in
    let sign : sign_len text ≡ 0 = sign_len-none text (look_up-unlike begins_with_letter (take 2 text) letter signs refl) (look_up-unlike begins_with_letter (take 1 text) letter signs refl) in
    let some : 0 < prefix_len is_word_byte text = omega (arith, one) in
    let word = first-taken text (prefix_len is_word_byte text) some in
    record {
      some = some;
      longest = omega (arith, name, number, sign);
      no_number = no-numeral (take (prefix_len is_word_byte text) text) (ap is_ascii_digit word ∙ letter-digit b letter);
      no_sign = look_up-unlike begins_with_letter (take (prefix_len is_word_byte text) text) (ap is_letter word ∙ letter) signs refl;
      identifier = subst (λ (n : ℕ). is_identifier (take n text) ≡ true) name (name-taken text (omega (arith, name, some)));
      long = length-prefix_len is_word_byte text;
    }

-- what follows the test for a number in `token_of`
abbrev other : Option AWord → List ℕ → Option Token
other word w = or_else (option_map Word word) (or_else (option_map Sign (sign_of w)) (cond (is_name w) (Some (Ident w)) None))

unnumbered : (w : List ℕ) → is_numeral w ≡ false → token_of w ≡ other (word_of w) w
unnumbered w e = ap (λ (b : Bool). cond b (option_map Number (number_of w)) (other (word_of w) w)) e

pub token-word : (w : List ℕ) (x : AWord) → is_numeral w ≡ false → word_of w ≡ Some x → token_of w ≡ Some (Word x)
token-word w x e f = unnumbered w e ∙ ap (λ (o : Option AWord). other o w) f

unsigned : (w : List ℕ) (b : Bool) → is_numeral w ≡ false → word_of w ≡ None → sign_of w ≡ None → is_name w ≡ b → token_of w ≡ cond b (Some (Ident w)) None
unsigned w b e f g h = grind (arith, unnumbered)

pub token-name : (w : List ℕ) → is_numeral w ≡ false → word_of w ≡ None → sign_of w ≡ None → is_identifier w ≡ true → length w ≤ 48 → token_of w ≡ Some (Ident w)
token-name w e f g is short = unsigned w true e f g (by (nat_lt (length w) 49) refl (is_identifier w) is (is_reserved w) (look_up-none words w f) short)
  where
    by : (a : Bool) → nat_lt (length w) 49 ≡ a → (i : Bool) → i ≡ true → (r : Bool) → r ≡ false → length w ≤ 48 → (a && i && not r) ≡ true
    by true e true f false g short = refl
    by false e i f r g short = absurd (grind (arith, nat_tests, e, short))
    by true e false f r g short = absurd cc
    by true e true f true g short = absurd cc

pub token-long : (w : List ℕ) → is_numeral w ≡ false → word_of w ≡ None → sign_of w ≡ None → 48 < length w → token_of w ≡ None
token-long w e f g long = unsigned w false e f g (by (nat_lt (length w) 49) refl long)
  where
    by : (a : Bool) → nat_lt (length w) 49 ≡ a → 48 < length w → (a && is_identifier w && not (is_reserved w)) ≡ false
    by true e long = absurd (grind (arith, nat_tests, e, long))
    by false e long = refl

-- a text that begins with a digit begins with a number
pub record IsNumberFront (text : List ℕ) (len : ℕ) : Type 0 where
  pub some : 0 < len
  pub longest : token_len text ≡ len
  pub numeral : is_numeral (take len text) ≡ true
  pub long : length (take len text) ≡ len

pub number-front : (text : List ℕ) → is_ascii_digit (slice_index text 0) ≡ true → IsNumberFront text (prefix_len is_ascii_digit text)
number-front [] digit = absurd cc
number-front (b ∷ bs) digit =
    let text = b ∷ bs in
    let one : prefix_len is_ascii_digit text ≡ 1 + prefix_len is_ascii_digit bs = ap (λ (c : Bool). cond c (1 + prefix_len is_ascii_digit bs) 0) digit in
    let name : name_len text ≡ 0 = ap (λ (c : Bool). cond c (prefix_len is_word_byte text) 0) (digit-no-letter b digit) in
    let sign : sign_len text ≡ 0 = sign_len-none text (look_up-unlike begins_with_digit (take 2 text) digit signs refl) (look_up-unlike begins_with_digit (take 1 text) digit signs refl) in
    let some : 0 < prefix_len is_ascii_digit text = omega (arith, one) in
    record {
      some = some;
      longest = omega (arith, name, sign);
      numeral = number-taken text some;
      long = length-prefix_len is_ascii_digit text;
    }

numbered : (w : List ℕ) → is_numeral w ≡ true → token_of w ≡ option_map Number (number_of w)
numbered w e = ap (λ (b : Bool). cond b (option_map Number (number_of w)) (other (word_of w) w)) e

pub number-kind : (w : List ℕ) → is_numeral w ≡ true → is_some (number_of w) ≡ true → option_map kind_of (token_of w) ≡ Some kind.Number
number-kind w e some = ap (option_map kind_of) (numbered w e) ∙ by (number_of w) some
  where
    by : (o : Option ℤ) → is_some o ≡ true → option_map kind_of (option_map Number o) ≡ Some kind.Number
    by None e = absurd cc
    by (Some x) e = refl

pub number-none : (w : List ℕ) → is_numeral w ≡ true → is_some (number_of w) ≡ false → token_of w ≡ None
number-none w e none = numbered w e ∙ by (number_of w) none
  where
    by : (o : Option ℤ) → is_some o ≡ false → option_map Number o ≡ None
    by None e = refl
    by (Some x) e = absurd cc

-- the answer of each case, where so many bytes are gone over and w is their text
module _ (text w : List ℕ) (len : ℕ) (letter : is_letter (slice_index text 0) ≡ true) (n : len ≡ prefix_len is_word_byte text) (is : w ≡ take len text) where
  at : w ≡ take (prefix_len is_word_byte text) text
  at = is ∙ ap (λ (k : ℕ). take k text) n

  no_number : is_numeral w ≡ false
  no_number = subst (λ (t : List ℕ). is_numeral t ≡ false) (sym at) (word-front text letter).no_number

  no_sign : sign_of w ≡ None
  no_sign = subst (λ (t : List ℕ). sign_of t ≡ None) (sym at) (word-front text letter).no_sign

  identifier : is_identifier w ≡ true
  identifier = subst (λ (t : List ℕ). is_identifier t ≡ true) (sym at) (word-front text letter).identifier

  long : length w ≡ len
  long = ap length at ∙ (word-front text letter).long ∙ sym n

  longest : token_len text ≡ len
  longest = (word-front text letter).longest ∙ sym n

  some : 0 < len
  some = let f = (word-front text letter).some in omega (arith, f, n)

  fault : token_of w ≡ None → IsFront text front.LongName
  fault none = grind (arith, longest, some, no_number)

  pub front-word : (x : AWord) → word_of w ≡ Some x → IsFront text (front.Token (kind.Word x) len)
  front-word x e = (some, sym longest, ap (λ (t : List ℕ). option_map kind_of (token_of t)) (sym is) ∙ ap (option_map kind_of) (token-word w x no_number e))

  pub front-name : word_of w ≡ None → len ≤ 48 → IsFront text (front.Token kind.Ident len)
  front-name e short = grind (arith, some, longest, token-name, no_number, no_sign, identifier, long)

  pub front-long : word_of w ≡ None → 48 < len → IsFront text front.LongName
  front-long e more = fault (token-long w no_number e no_sign (omega (arith, long, more)))

module _ (text w : List ℕ) (len : ℕ) (digit : is_ascii_digit (slice_index text 0) ≡ true) (n : len ≡ prefix_len is_ascii_digit text) (is : w ≡ take len text) where
  at-digits : w ≡ take (prefix_len is_ascii_digit text) text
  at-digits = is ∙ ap (λ (k : ℕ). take k text) n

  pub front-digits : is_numeral w ≡ true
  front-digits = subst (λ (t : List ℕ). is_numeral t ≡ true) (sym at-digits) (number-front text digit).numeral

  pub front-number : is_some (number_of w) ≡ true → IsFront text (front.Token kind.Number len)
  front-number e = grind (arith, number-front, some, longest, number-kind, front-digits)

  pub front-short : len ≤ 18 → IsFront text (front.Token kind.Number len)
  front-short short = grind (arith, at-digits, number-front, front-number, number_of-short, front-digits)

  pub front-large : is_some (number_of w) ≡ false → IsFront text front.LargeNumber
  front-large e = grind (arith, number-front, at-digits, longest, some, front-digits, number-none)

-- a text that begins with no letter and no digit begins with a sign or with no token
module _ (text : List ℕ) (letter : is_letter (slice_index text 0) ≡ false) (digit : is_ascii_digit (slice_index text 0) ≡ false) where
  abbrev begins_with_no_letter : List ℕ → Bool
  begins_with_no_letter t = not (begins_with_letter t)

  longest-sign : token_len text ≡ sign_len text
  longest-sign = grind arith

  pub front-sign : (s : ASign) (len : ℕ) → IsFrontSign text (Some (s, len)) → IsFront text (front.Token (kind.Sign s) len)
  front-sign s len found =
      let w = take len text in
      let first = first-taken text len found.0 in
      let no_word : word_of w ≡ None = look_up-unlike begins_with_no_letter w (ap (λ (b : ℕ). not (is_letter b)) first ∙ ap not letter) words refl in
      let token : token_of w ≡ Some (Sign s) =
      unnumbered w (no-numeral w (ap is_ascii_digit first ∙ digit)) ∙ ap (λ (o : Option AWord). other o w) no_word
      ∙ ap (λ (o : Option ASign). or_else (option_map Sign o) (cond (is_name w) (Some (Ident w)) None)) found.2 in
      (found.0, found.1 ∙ sym longest-sign, ap (option_map kind_of) token)

  pub front-nothing : sign_len text ≡ 0 → IsFront text front.Nothing
  front-nothing none = longest-sign ∙ none
