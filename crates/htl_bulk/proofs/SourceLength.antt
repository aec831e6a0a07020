-- The printed form of tokens has at most 50 bytes for each.
use Rattle.std.proofs.Common.{arith, ◌≡◌, ◌≤◌, ◌*◌, ◌∷◌, ◌&&◌, Bool, true, false, ℕ, List, [], length, refl, sym, ap, subst, length-append}
use Rattle.htl_bulk.proofs.Words.{AreSpellable, IsSpellable, Sign, Token, Word, decimal, is_identifier, is_reserved, length-decimal-le, nat_tests, printed_bytes, printed_bytes-cons, printed_bytes-nil, separator, sign_text, token_bytes, token_text, word_text}
use Rattle.std.proofs.Common.{nat_lt, not}
use Rattle.htl_text.specs.declared.token.Sign.TheVariants as sign
use Rattle.htl_text.specs.declared.token.Token.TheVariants as token
use Rattle.htl_text.specs.declared.token.Word.TheVariants as word

word_short : (w : Word) → length (word_text w) ≤ 12
word_short word.Program = omega arith
word_short _ = omega arith

sign_short : (s : Sign) → length (sign_text s) ≤ 2
sign_short sign.OpenBrace = omega arith
sign_short _ = omega arith

name_short : (a b c : Bool) (n : ℕ) → a ≡ nat_lt n 49 → (a && b && c) ≡ true → n ≤ 48
name_short true b c n is e = grind (arith, nat_tests)
name_short false b c n is e = absurd (let z : ⊥ = cc in z)

text_short : (t : Token) → IsSpellable t → length (token_text t) ≤ 48
text_short (token.Ident n) is = name_short (nat_lt (length n) 49) (is_identifier n) (not (is_reserved n)) (length n) refl is
text_short (token.Number x) is =
    subst (λ z. length (token_text (token.Number z)) ≤ 48) (sym is.1) (let few : length (decimal is.0) ≤ 20 = length-decimal-le 20 is.0 (omega arith) (omega (arith, is.2)) (omega (arith, is.2)) in omega (arith, few))
text_short (token.Word w) is = omega (arith, word_short w)
text_short (token.Sign s) is = omega (arith, sign_short s)

pub bytes_few : (ts : List Token) → AreSpellable ts → length (printed_bytes ts) ≤ 50 * length ts
bytes_few [] h = let none = ap length printed_bytes-nil in omega (arith, none)
bytes_few (t ∷ ts) h =
    let front = ap length (printed_bytes-cons t ts) in
    let here : length (token_bytes t) ≤ 49 = omega (arith, text_short t h.0, length-append (token_text t) (separator t ∷ [])) in
    omega (arith, front, here, length-append (token_bytes t) (printed_bytes ts), bytes_few ts h.1)
