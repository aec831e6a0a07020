-- Names, and keys of names, are text.
use Rattle.std.proofs.Common.{◌≡◌, ◌<◌, ℕ, true, ◌&&◌, not, nat_lt, length, List, ◌∷◌, ◌++◌, get_or, arith}
use Rattle.htl_platform.proofs.Words.{IsUtf8, slice_index, list_all, IsAscii, and_parts, nat_tests, AllPass-from_list_all, IsUtf8-from_ascii, IsAscii-append, IsAscii-cons, IsAscii-from_all, is_name, is_identifier, is_reserved, is_letter, is_word_byte}

word_byte : (b : ℕ) → is_word_byte b ≡ true → b < 128
word_byte b e = grind (arith, nat_tests)

pub IsAscii-name : (bytes : List ℕ) → is_name bytes ≡ true → IsAscii bytes
IsAscii-name bytes e =
    let short = nat_lt (length bytes) 49 in
    let plain = (and_parts (short && is_identifier bytes) (not (is_reserved bytes)) e).0 in
    let word = (and_parts short (is_identifier bytes) plain).1 in
    let all = (and_parts (is_letter (slice_index bytes 0)) (list_all is_word_byte bytes) word).1 in
    IsAscii-from_all bytes (λ k d below. word_byte (get_or bytes k d) (AllPass-from_list_all is_word_byte bytes all k d below))

pub IsUtf8-dotted : (front back : List ℕ) → is_name front ≡ true → is_name back ≡ true → IsUtf8 (front ++ 46 ∷ back)
IsUtf8-dotted front back f b =
    IsUtf8-from_ascii _ (IsAscii-append front (46 ∷ back) (IsAscii-name front f) (IsAscii-cons 46 back (omega arith) (IsAscii-name back b)))
