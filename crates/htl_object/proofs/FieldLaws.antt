-- The fields that several items have: what is spelled is read, and what is read is spelled so.
use Rattle.std.proofs.Common.{◌≡◌, ℕ, ◌^◌, ◌<◌, ◌≤◌, ◌==◌, Bool, true, false, cond, List, [], ◌∷◌, ◌++◌, length, take, drop, Option, Some, None, Ok, Err, refl, sym, ap, ◌∙◌, arith, inl, inr}
use Rattle.htl_object.proofs.Words.{nat_le, nat_lt, FitsSigned, Width, w16, w32, w64, byte_len, from_be_bytes, to_be_bytes, cast_signed, cast_unsigned, cases_lt, eqb-true, eqb-false, ne_eqb, ltb-false, le-ltb, leb-true, le-leb, take_at, drop_at, take-append-drop, length-append, length-take, get_or-take, get_or_past, be_bytes_2, be_bytes_4, be_bytes_8, from_be_bytes-to_be_bytes_2, from_be_bytes-to_be_bytes_4, from_be_bytes-to_be_bytes_8, nat_tests, sfits_to_z, to_z-of_z, of_z-to_z, Fits-of_z, Fits-lt-pow, Fits-of_lt, is_name, Ty, Int, Truth, Index, Spelling, IsBytes, Read, bad_at, short, need, byte_at, number_at, plain_at, name_bytes, type_bytes, flag_bytes, value_bytes, option_bytes, option_of, option_at, name_at, type_at, flag_at, value_at, is_span, span_at, place_at, is_owner, owner_at, is_of, init_at, IsOption}
use Rattle.htl_object.proofs.{Lawful.IsCodec, Lawful.Taken, Lawful.given-value, Lawful.needed, Lawful.last, Lawful.checked, Lawful.whole, Lawful.refit, Tagged.of_plain, Tagged.tagged}

IsBytes-take : (n : ℕ) (bytes : List ℕ) → IsBytes bytes → IsBytes (take n bytes)
IsBytes-take n bytes h i =
    elim (cases_lt i n) [
      | inl lt ↦ rw (get_or-take n bytes i 0 lt) (h i)
      | inr le ↦ rw (get_or_past (take n bytes) i 0 (omega (arith, length-take n bytes))) (omega arith)
    ]

-- ---- bytes and numbers

pub byte : IsCodec (λ b. b ∷ []) (λ b. b < 256) byte_at
byte = record { again = λ b rest f. refl; takes = takes }
  where
    takes : (bytes : List ℕ) (y : ℕ) (rest : List ℕ) → IsBytes bytes → byte_at bytes ≡ Ok (y, rest) → Taken (λ x. x) (λ b. b ∷ []) (λ b. b < 256) bytes y rest
    takes [] y rest are e = absurd cc
    takes (b ∷ bytes) y rest are e =
        let g = given-value b y bytes rest e in
        record { part = b; made = g.0; spelled = ap (λ (r : List ℕ). b ∷ r) g.1; fit = are 0 }

pub record IsWide (w : Width) (limit : ℕ) : Type 0 where
  pub len : (n : ℕ) → length (to_be_bytes w n) ≡ byte_len w
  pub back : (bytes : List ℕ) → length bytes ≡ byte_len w → IsBytes bytes → to_be_bytes w (from_be_bytes w bytes) ≡ bytes
  pub again : (n : ℕ) → n < limit → from_be_bytes w (to_be_bytes w n) ≡ n
  pub below : (bytes : List ℕ) → IsBytes bytes → from_be_bytes w bytes < limit

wide16 : IsWide w16 (2 ^ 16)
wide16 = record {
  len = λ n. refl;
  back = λ bytes len fits. be_bytes_2 bytes _ len fits refl;
  again = λ n lt. from_be_bytes-to_be_bytes_2 n lt;
  below = λ bytes fits. omega (arith, fits 0, fits 1);
}

wide32 : IsWide w32 (2 ^ 32)
wide32 = record {
  len = λ n. refl;
  back = λ bytes len fits. be_bytes_4 bytes _ len fits refl;
  again = λ n lt. from_be_bytes-to_be_bytes_4 n lt;
  below = λ bytes fits. omega (arith, fits 0, fits 1, fits 2, fits 3);
}

wide64 : IsWide w64 (2 ^ 64)
wide64 = record {
  len = λ n. refl;
  back = λ bytes len fits. be_bytes_8 bytes _ len fits refl;
  again = λ n lt. from_be_bytes-to_be_bytes_8 n lt;
  below = λ bytes fits. omega (arith, fits 0, fits 1, fits 2, fits 3, fits 4, fits 5, fits 6, fits 7);
}

number : (w : Width) (limit : ℕ) → IsWide w limit → IsCodec (to_be_bytes w) (λ n. n < limit) (number_at w)
number w limit wide = record {
  again = λ n rest lt.
      let len = wide.len n in
      let long : nat_lt (length (to_be_bytes w n ++ rest)) (byte_len w) ≡ false = le-ltb _ _ (omega (arith, length-append (to_be_bytes w n) rest)) in
      rw (long, take_at (to_be_bytes w n) rest (byte_len w) len, drop_at (to_be_bytes w n) rest (byte_len w) len, wide.again n lt) refl;
  takes = λ bytes n rest are e.
      let g = read_whole (nat_lt (length bytes) (byte_len w)) (from_be_bytes w (take (byte_len w) bytes)) n (drop (byte_len w) bytes) rest e in
      let long : byte_len w ≤ length bytes = ltb-false _ _ g.0 in
      let front = wide.back (take (byte_len w) bytes) (omega (arith, length-take (byte_len w) bytes)) (IsBytes-take (byte_len w) bytes are) in
      record {
        part = from_be_bytes w (take (byte_len w) bytes);
        made = g.1;
        spelled = sym (take-append-drop (byte_len w) bytes) ∙ ap (λ (x : List ℕ). x ++ drop (byte_len w) bytes) (sym front) ∙ ap (λ (x : List ℕ). to_be_bytes w (from_be_bytes w (take (byte_len w) bytes)) ++ x) g.2;
        fit = wide.below (take (byte_len w) bytes) (IsBytes-take (byte_len w) bytes are);
      };
}
  where
    read_whole : (test : Bool) (x y : ℕ) (r s : List ℕ) → cond {A = Read ℕ} test (Err short) (Ok (x, r)) ≡ Ok (y, s) → (test ≡ false) × (x ≡ y) × (r ≡ s)
    read_whole true x y r s e = absurd cc
    read_whole false x y r s e = let g = given-value x y r s e in (refl, g.0, g.1)

pub number16 : IsCodec (to_be_bytes w16) (λ n. n < 2 ^ 16) (number_at w16)
number16 = number w16 (2 ^ 16) wide16

pub number32 : IsCodec (to_be_bytes w32) (λ n. n < 2 ^ 32) (number_at w32)
number32 = number w32 (2 ^ 32) wide32

pub value : IsCodec value_bytes (FitsSigned w64) value_at
value =
    whole (cast_signed w64) (cast_unsigned w64) value_bytes (FitsSigned w64)
    (last {make = cast_signed w64} (number w64 (2 ^ 64) wide64))
    (λ x f. (to_z-of_z {w = w64} {z = x} f, refl, Fits-lt-pow (Fits-of_z {w = w64} {z = x} f)))
    (λ n f. (ap (to_be_bytes w64) (of_z-to_z {w = w64} {n = n} (Fits-of_lt f)), sfits_to_z {w = w64} {n = n} (Fits-of_lt f)))

-- ---- tests on numbers

span-fits : (n : ℕ) → is_span n ≡ true → n < 2 ^ 32
span-fits n h = grind (arith, nat_tests)

pub span : IsCodec (to_be_bytes w32) (λ n. is_span n ≡ true) span_at
span = refit (λ n. is_span n ≡ true) (checked Index is_span number32) (λ n f. (span-fits n f, f)) (λ n f. f.1)

pub init : (ty : Ty) → IsCodec value_bytes (λ x. FitsSigned w64 x × (is_of ty x ≡ true)) (init_at ty)
init ty = checked Spelling (is_of ty) value

pub place : (count : ℕ) → IsCodec (to_be_bytes w16) (λ n. (n < 2 ^ 16) × (nat_lt n count ≡ true)) (place_at count)
place count = checked Index (λ n. nat_lt n count) number16

pub owner : (count least : ℕ) → IsCodec (to_be_bytes w16) (λ n. (n < 2 ^ 16) × (is_owner count least n ≡ true)) (owner_at count least)
owner count least = checked Index (is_owner count least) number16

option-none : (n : ℕ) (test : Bool) → test ≡ (n == 65535) → n < 2 ^ 16
    → (option_bytes (cond test None (Some n)) ≡ to_be_bytes w16 n) × IsOption (cond test None (Some n))
option-none n true is lt = (ap (to_be_bytes w16) (sym (eqb-true n 65535 (sym is))), tt)
option-none n false is lt = (refl, omega (arith, eqb-false n 65535 (sym is)))

pub option : IsCodec option_bytes IsOption option_at
option = whole option_of number_of option_bytes IsOption (last {make = option_of} number16) to (λ n f. option-none n (n == 65535) refl f)
  where
    number_of : Option ℕ → ℕ
    number_of None = 65535
    number_of (Some n) = n

    to : (o : Option ℕ) → IsOption o → (option_of (number_of o) ≡ o) × (option_bytes o ≡ to_be_bytes w16 (number_of o)) × (number_of o < 2 ^ 16)
    to None f = (refl, refl, omega arith)
    to (Some n) f = (ap (λ (b : Bool). cond b None (Some n)) (ne_eqb n 65535 (omega arith)), refl, omega arith)

-- ---- tags

pub type : IsCodec type_bytes (λ _. Unit {0}) type_at
type = tagged type_bytes (λ _. Unit {0}) ((0, plain_at Int) ∷ (1, plain_at Truth) ∷ []) again
    (of_plain type_bytes (λ _. Unit {0}) 0 Int refl tt, (of_plain type_bytes (λ _. Unit {0}) 1 Truth refl tt, tt))
  where
    again : (x : Ty) (rest : List ℕ) → Unit {0} → type_at (type_bytes x ++ rest) ≡ Ok (x, rest)
    again Int rest f = refl
    again Truth rest f = refl

pub flag : IsCodec flag_bytes (λ _. Unit {0}) flag_at
flag = tagged flag_bytes (λ _. Unit {0}) ((0, plain_at false) ∷ (1, plain_at true) ∷ []) again
    (of_plain flag_bytes (λ _. Unit {0}) 0 false refl tt, (of_plain flag_bytes (λ _. Unit {0}) 1 true refl tt, tt))
  where
    again : (x : Bool) (rest : List ℕ) → Unit {0} → flag_at (flag_bytes x ++ rest) ≡ Ok (x, rest)
    again false rest f = refl
    again true rest f = refl

-- ---- names

pub name : IsCodec name_bytes (λ n. is_name n ≡ true) name_at
name = record { again = again; takes = takes }
  where
    again : (n rest : List ℕ) → is_name n ≡ true → name_at (name_bytes n ++ rest) ≡ Ok (n, rest)
    again n rest f =
        let long : nat_le (length n) (length (n ++ rest)) ≡ true = le-leb _ _ (omega (arith, length-append n rest)) in
        rw (long, take_at n rest (length n) refl, drop_at n rest (length n) refl, f) refl

    takes : (bytes n rest : List ℕ) → IsBytes bytes → name_at bytes ≡ Ok (n, rest) → Taken (λ x. x) name_bytes (λ n. is_name n ≡ true) bytes n rest
    takes [] n rest are e = absurd cc
    takes (len ∷ bytes) n rest are e =
        let bad = bad_at Spelling (len ∷ bytes) in
        let a = needed (nat_le len (length bytes)) short (need (is_name (take len bytes)) bad (Ok (take len bytes, drop len bytes))) n rest e in
        let b = needed (is_name (take len bytes)) bad (Ok (take len bytes, drop len bytes)) n rest a.1 in
        let g = given-value (take len bytes) n (drop len bytes) rest b.1 in
        let long : len ≤ length bytes = leb-true _ _ a.0 in
        let size : len ≡ length (take len bytes) = omega (arith, length-take len bytes) in
        record {
          part = take len bytes;
          made = g.0;
          spelled = ap (λ (k : ℕ). k ∷ bytes) size ∙ ap (λ (x : List ℕ). length (take len bytes) ∷ x) (sym (take-append-drop len bytes)) ∙ ap (λ (x : List ℕ). length (take len bytes) ∷ (take len bytes ++ x)) g.1;
          fit = b.0;
        }
