-- Printed tokens are found again.
use Rattle.std.proofs.Common.{arith, ◌+◌, ◌^◌, ◌≡◌, ◌<◌, ℕ, ℤ, pos, zero, suc, Bool, true, false, cond, not, ◌&&◌, ◌||◌, List, [], ◌∷◌, ◌++◌, length, map, take, Option, None, Some, refl, sym, subst, ap, ◌∙◌, append-nil, append_assoc}
use Rattle.std.specs.Prelude.{◌==◌, nat_lt, is_some, find}
use Rattle.htl_text.proofs.Words.{is_ascii_digit, decimal, list_all, list_any, zip, option_map, bytes_eq, decimal_is_IsNumeral, nat_tests, bytes_eq-Decides, is_word_byte, is_identifier, is_name, is_reserved, IsSpellable, AreSpellable, word_text, sign_text, token_text, separator, printed_bytes, is_token, is_numeral, token_of, words, word_of, signs, sign_of, number_of, or_else, look_up, Gap, none, blank, IsSpan, Cuts, Tokens, is_blank, Token, Ident, Number, Word, Sign, AWord, ASign, and_parts, not-true}
use Rattle.htl_text.proofs.{FirstFault.identifier-number, Numbers.own, Numbers.digits_of_number, Writing.printed_bytes-cons, Writing.printed_bytes-nil}
use Rattle.htl_text.specs.declared.token.Word.TheVariants as word
use Rattle.htl_text.specs.declared.token.Sign.TheVariants as sign
use Rattle.htl_base.proofs.Tests.{and_none}

-- what all spellings of a table have, a text has that is found there
look_up-kept : {T : Type 0} (q : List ℕ → Bool) (es : List (List ℕ × T)) (text : List ℕ) → list_all (λ (e : List ℕ × T). q e.0) es ≡ true → is_some (look_up es text) ≡ true
    → q text ≡ true
look_up-kept {T} q [] text all found = absurd cc
look_up-kept {T} q (e ∷ es) text all found = by (bytes_eq e.0 text) refl (λ f. look_up-kept q es text (and_parts (q e.0) (list_all (λ (x : List ℕ × T). q x.0) es) all).1 f) found
  where
    by : (c : Bool) → bytes_eq e.0 text ≡ c → (is_some (look_up es text) ≡ true → q text ≡ true)
        → is_some (option_map (λ (x : List ℕ × T). x.1) (cond c (Some e) (find (λ (x : List ℕ × T). bytes_eq x.0 text) es))) ≡ true → q text ≡ true
    by true same later f = subst (λ (t : List ℕ). q t ≡ true) ((bytes_eq-Decides e.0 text).0 same) (and_parts (q e.0) (list_all (λ (x : List ℕ × T). q x.0) es) all).0
    by false same later f = later f

not-found : {T : Type 0} (o : Option T) (b : Bool) → b ≡ false → (is_some o ≡ true → b ≡ true) → o ≡ None
not-found None b e kept = refl
not-found (Some x) b e kept = let f = kept refl in absurd cc

abbrev is_solid : ℕ → Bool
is_solid b = not (is_blank b)

all-more : (p q : ℕ → Bool) → ((b : ℕ) → p b ≡ true → q b ≡ true) → (bs : List ℕ) → list_all p bs ≡ true → list_all q bs ≡ true
all-more p q more [] all = refl
all-more p q more (b ∷ bs) all =
    let parts = and_parts (p b) (list_all p bs) all in
    ap (λ (c : Bool). c && list_all q bs) (more b parts.0) ∙ all-more p q more bs parts.1

word-solid : (b : ℕ) → is_word_byte b ≡ true → is_solid b ≡ true
word-solid b e = grind (arith, nat_tests, e)

digit-solid : (b : ℕ) → is_ascii_digit b ≡ true → is_solid b ≡ true
digit-solid b e = grind (arith, nat_tests, e)

identifier-all : (bs : List ℕ) → is_identifier bs ≡ true → list_all is_word_byte bs ≡ true
identifier-all bs e = (and_parts _ (list_all is_word_byte bs) e).1

-- no token holds a blank
token-solid : (bs : List ℕ) → is_token bs ≡ true → list_all is_solid bs ≡ true
token-solid bs is = by (is_identifier bs) refl (is_numeral bs) refl is
  where
    by : (i : Bool) → is_identifier bs ≡ i → (n : Bool) → is_numeral bs ≡ n → (i || n || is_some (sign_of bs)) ≡ true → list_all is_solid bs ≡ true
    by true e n f is = all-more is_word_byte is_solid word-solid bs (identifier-all bs e)
    by false e true f is = all-more is_ascii_digit is_solid digit-solid bs (digits_of_number bs f)
    by false e false f is = look_up-kept (list_all is_solid) signs bs refl is

blank-found : (xs ys : List ℕ) (b : ℕ) → is_blank b ≡ true → list_all is_solid (xs ++ b ∷ ys) ≡ false
blank-found [] ys b e = ap (λ (c : Bool). not c && list_all is_solid ys) e
blank-found (x ∷ xs) ys b e = ap (λ (c : Bool). is_solid x && c) (blank-found xs ys b e) ∙ and_none (is_solid x)

-- what goes on with a blank is no token
blank-ends : (xs more : List ℕ) (b k : ℕ) → is_blank b ≡ true → length xs < k → is_token (take k (xs ++ b ∷ more)) ≡ false
blank-ends xs more b k e long = by (is_token (take k (xs ++ b ∷ more))) refl
  where
    cut : (xs : List ℕ) (k : ℕ) → length xs < k → (ys : List ℕ) × (take k (xs ++ b ∷ more) ≡ xs ++ b ∷ ys)
    cut [] zero long = absurd (omega (arith, long))
    cut [] (suc k) long = (take k more, refl)
    cut (x ∷ xs) zero long = absurd (omega (arith, long))
    cut (x ∷ xs) (suc k) long = grind (arith, cut xs k (omega (arith, long)))

    by : (t : Bool) → is_token (take k (xs ++ b ∷ more)) ≡ t → t ≡ false
    by false is = refl
    by true is =
        let ys = cut xs k long in
        let whole = token-solid (take k (xs ++ b ∷ more)) is in
        let broken : list_all is_solid (take k (xs ++ b ∷ more)) ≡ false = ap (list_all is_solid) ys.1 ∙ blank-found xs ys.0 b e in
        absurd cc

separator-blank : (t : Token) → (is_blank (separator t) ≡ true) × ((separator t == 47) ≡ false)
separator-blank (Sign sign.Semicolon) = (refl, refl)
separator-blank _ = (refl, refl)

word-again : (w : AWord) → (is_token (word_text w) ≡ true) × (token_of (word_text w) ≡ Some (Word w))
word-again word.Program = (refl, refl)
word-again w = (refl, refl)

sign-again : (s : ASign) → (is_token (sign_text s) ≡ true) × (token_of (sign_text s) ≡ Some (Sign s))
sign-again sign.Comma = (refl, refl)
sign-again s = (refl, refl)

-- a name is found in neither table
name-again : (n : List ℕ) → is_name n ≡ true → (is_token n ≡ true) × (token_of n ≡ Some (Ident n))
name-again n is =
    let outer = and_parts (nat_lt (length n) 49 && is_identifier n) (not (is_reserved n)) is in
    let inner = and_parts (nat_lt (length n) 49) (is_identifier n) outer.0 in
    let no_word : word_of n ≡ None = not-listed words n (not-true (is_reserved n) outer.1) in
    let no_sign : sign_of n ≡ None = not-found (sign_of n) (not (is_identifier n)) (ap not inner.1) (look_up-kept (λ (bs : List ℕ). not (is_identifier bs)) signs n refl) in (
      ap (λ (b : Bool). b || is_numeral n || is_some (sign_of n)) inner.1,
      ap (λ (b : Bool). cond b (option_map Number (number_of n)) (other (word_of n) (sign_of n) (is_name n))) (identifier-number n inner.1)
          ∙ ap (λ (w : Option AWord). other w (sign_of n) (is_name n)) no_word ∙ ap (λ (s : Option ASign). other None s (is_name n)) no_sign
          ∙ ap (λ (b : Bool). other None None b) is,
    )
  where
    other : Option AWord → Option ASign → Bool → Option Token
    other w s b = or_else (option_map Word w) (or_else (option_map Sign s) (cond b (Some (Ident n)) None))

    not-listed : {T : Type 0} (es : List (List ℕ × T)) (text : List ℕ) → list_any (bytes_eq text) (map (λ (e : List ℕ × T). e.0) es) ≡ false → look_up es text ≡ None
    not-listed {T} es text e = not-found (look_up es text) (list_any (bytes_eq text) (map (λ (e : List ℕ × T). e.0) es)) e (listed es text)
      where
        listed : (es : List (List ℕ × T)) (text : List ℕ) → is_some (look_up es text) ≡ true → list_any (bytes_eq text) (map (λ (e : List ℕ × T). e.0) es) ≡ true
        listed [] text found = absurd cc
        listed (x ∷ xs) text found = by (bytes_eq x.0 text) refl (listed xs text) found
          where
            back : bytes_eq x.0 text ≡ true → bytes_eq text x.0 ≡ true
            back same = (bytes_eq-Decides text x.0).1 (sym ((bytes_eq-Decides x.0 text).0 same))

            or-true : (a : Bool) → (a || true) ≡ true
            or-true true = refl
            or-true false = refl

            by : (c : Bool) → bytes_eq x.0 text ≡ c → (is_some (look_up xs text) ≡ true → list_any (bytes_eq text) (map (λ (e : List ℕ × T). e.0) xs) ≡ true)
                → is_some (option_map (λ (e : List ℕ × T). e.1) (cond c (Some x) (find (λ (e : List ℕ × T). bytes_eq e.0 text) xs))) ≡ true
                → (bytes_eq text x.0 || list_any (bytes_eq text) (map (λ (e : List ℕ × T). e.0) xs)) ≡ true
            by true same later f = ap (λ (b : Bool). b || list_any (bytes_eq text) (map (λ (e : List ℕ × T). e.0) xs)) (back same)
            by false same later f = ap (λ (b : Bool). bytes_eq text x.0 || b) (later f) ∙ or-true (bytes_eq text x.0)

number-again : (n : ℕ) → n < 2 ^ 63 → (is_token (decimal n) ≡ true) × (token_of (decimal n) ≡ Some (Number (pos n)))
number-again n below =
    let numeral = decimal_is_IsNumeral n (omega (arith, below)) in
    let digits : list_all is_ascii_digit (decimal n) ≡ true = own.from (decimal n) numeral.0.1 in
    let some : nat_lt 0 (length (decimal n)) ≡ true = let long = numeral.0.0 in grind (arith, nat_tests, long) in
    let is : is_numeral (decimal n) ≡ true = ap (λ (b : Bool). b && list_all is_ascii_digit (decimal n)) some ∙ digits in
    let small : nat_lt n (2 ^ 63) ≡ true = grind (arith, nat_tests, below) in (
      or-middle (is_identifier (decimal n)) (is_numeral (decimal n)) (is_some (sign_of (decimal n))) is,
      ap (λ (b : Bool). cond b (option_map Number (number_of (decimal n))) (other (decimal n))) is
          ∙ ap (λ (v : ℕ). option_map Number (cond (nat_lt v (2 ^ 63)) (Some (pos v)) None)) numeral.1
          ∙ ap (λ (b : Bool). option_map Number (cond b (Some (pos n)) None)) small,
    )
  where
    other : List ℕ → Option Token
    other text = or_else (option_map Word (word_of text)) (or_else (option_map Sign (sign_of text)) (cond (is_name text) (Some (Ident text)) None))

    or-middle : (a b c : Bool) → b ≡ true → (a || b || c) ≡ true
    or-middle true b c e = refl
    or-middle false b c e = subst (λ (x : Bool). (x || c) ≡ true) (sym e) refl

token-again : (t : Token) → IsSpellable t → (is_token (token_text t) ≡ true) × (token_of (token_text t) ≡ Some t)
token-again (Ident n) h = name-again n h
token-again (Number x) h =
    let a = number-again h.0 h.2 in
    subst (λ (z : ℤ). (is_token (token_text (Number z)) ≡ true) × (token_of (token_text (Number z)) ≡ Some (Number z))) (sym h.1) a
token-again (Word w) h = word-again w
token-again (Sign s) h = sign-again s

IsSpan-printed : (t : Token) (more : List ℕ) → is_token (token_text t) ≡ true → IsSpan (token_text t) (separator t ∷ more)
IsSpan-printed t more is = record {
  token = is;
  longest = λ k long fits. blank-ends (token_text t) more (separator t) k (separator-blank t).0 long;
  no_comment = λ e. (separator-blank t).1;
}

-- behind a gap the printed tokens are cut
record AreCut (at : ℕ) (bytes : List ℕ) (ts : List Token) : Type 0 where
  offsets : List ℕ
  paired : length offsets ≡ length ts
  end : ℕ
  rest : List ℕ
  cuts : Cuts at bytes (zip ts offsets) end rest
  gap : Gap false false rest

are-cut : (at : ℕ) (gap : List ℕ) (ts : List Token) → Gap false false gap → AreSpellable ts → AreCut at (gap ++ printed_bytes ts) ts
are-cut at gap [] g h = record {
  offsets = [];
  paired = refl;
  end = at;
  rest = gap ++ printed_bytes [];
  cuts = (refl, refl);
  gap = subst (λ (bs : List ℕ). Gap false false bs) (sym (ap (λ (bs : List ℕ). gap ++ bs) printed_bytes-nil ∙ append-nil gap)) g;
}
are-cut at gap (t ∷ ts) g h =
    let again = token-again t h.0 in
    let next = are-cut (at + length gap + length (token_text t)) (separator t ∷ []) ts (blank (separator-blank t).0 none) h.1 in
    let bytes : gap ++ printed_bytes (t ∷ ts) ≡ gap ++ (token_text t ++ (separator t ∷ printed_bytes ts)) =
    ap (λ (bs : List ℕ). gap ++ bs) (printed_bytes-cons t ts ∙ append_assoc (token_text t) (separator t ∷ []) (printed_bytes ts)) in
    record {
      offsets = (at + length gap) ∷ next.offsets;
      paired = let p = next.paired in omega (arith, p);
      end = next.end;
      rest = next.rest;
      cuts = (gap, token_text t, separator t ∷ printed_bytes ts, bytes, g, IsSpan-printed t (printed_bytes ts) again.0, again.1, refl, next.cuts);
      gap = next.gap;
    }

pub printed-tokens : (ts : List Token) → AreSpellable ts
    → (offsets : List ℕ) × Tokens (printed_bytes ts) (record { tokens = ts; offsets = offsets; end = length (printed_bytes ts) })
printed-tokens ts h =
    let a = are-cut 0 [] ts none h in
    (a.offsets, record { paired = a.paired; cut = (a.end, a.rest, false, a.cuts, a.gap); whole = refl })
