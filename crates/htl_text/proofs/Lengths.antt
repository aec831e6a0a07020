-- The longest token at a place.
use Rattle.std.proofs.Common.{arith, ◌+◌, one-add, length-take, length-take-le, ◌≡◌, ◌≤◌, ◌<◌, ℕ, zero, suc, Bool, true, false, cond, ◌&&◌, ◌||◌, List, [], ◌∷◌, length, take, Some, max, refl, sym, subst, ap, ◌∙◌, inl, inr}
use Rattle.std.specs.Prelude.{◌⊎◌, slice_index, nat_lt, nat_le, is_some, find}
use Rattle.htl_text.proofs.Words.{is_ascii_digit, prefix_len, list_all, bytes_eq, option_map, length-prefix_len, prefix_len-le-length, bytes_eq-Decides, nat_tests, is_letter, is_word_byte, is_identifier, look_up, words, word_of, signs, sign_of, is_numeral, is_token, name_len, number_len, sign_len, token_len, and_parts, or_cases}

prefix-most : (p : ℕ → Bool) (k : ℕ) (bs : List ℕ) → k ≤ length bs → list_all p (take k bs) ≡ true → k ≤ prefix_len p bs
prefix-most p zero bs fits all = omega arith
prefix-most p (suc k) [] fits all = absurd (omega (arith, fits))
prefix-most p (suc k) (b ∷ bs) fits all =
    let one = and_parts (p b) (list_all p (take k bs)) all in
    let more = prefix-most p k bs (omega (arith, fits)) one.1 in
    subst (λ (c : Bool). suc k ≤ cond c (1 + prefix_len p bs) 0) (sym one.0) (omega (arith, more))

prefix-all : (p : ℕ → Bool) (bs : List ℕ) → list_all p (take (prefix_len p bs) bs) ≡ true
prefix-all p [] = refl
prefix-all p (b ∷ bs) = by (prefix-all p bs) (p b) refl
  where
    by : list_all p (take (prefix_len p bs) bs) ≡ true → (c : Bool) → p b ≡ c → list_all p (take (cond c (1 + prefix_len p bs) 0) (b ∷ bs)) ≡ true
    by rest true e = grind (arith, one-add)
    by rest false e = refl

-- no text of a table is longer than its longest spelling
pub look_up-short : {T : Type 0} (n : ℕ) (es : List (List ℕ × T)) (text : List ℕ) → list_all (λ (e : List ℕ × T). nat_le (length e.0) n) es ≡ true
    → is_some (look_up es text) ≡ true → length text ≤ n
look_up-short {T} n [] text all found = absurd cc
look_up-short {T} n (e ∷ es) text all found = by (bytes_eq e.0 text) refl (λ f. look_up-short n es text (and_parts _ _ all).1 f) found
  where
    by : (c : Bool) → bytes_eq e.0 text ≡ c → (is_some (look_up es text) ≡ true → length text ≤ n)
        → is_some (option_map (λ (x : List ℕ × T). x.1) (cond c (Some e) (find (λ (x : List ℕ × T). bytes_eq x.0 text) es))) ≡ true → length text ≤ n
    by true same later f = grind (arith, bytes_eq-Decides, and_parts)
    by false same later f = later f

pub sign-short : (text : List ℕ) → is_some (sign_of text) ≡ true → length text ≤ 2
sign-short text found = look_up-short 2 signs text refl found

pub word-short : (text : List ℕ) → is_some (word_of text) ≡ true → length text ≤ 12
word-short text found = look_up-short 12 words text refl found

-- a token at the front is no longer than the longest
name-most : (k : ℕ) (bs : List ℕ) → k ≤ length bs → is_identifier (take k bs) ≡ true → k ≤ name_len bs
name-most zero bs fits is = omega arith
name-most (suc k) [] fits is = absurd (omega (arith, fits))
name-most (suc k) (b ∷ bs) fits is = grind (arith, and_parts, prefix-most)

number-most : (k : ℕ) (bs : List ℕ) → k ≤ length bs → is_numeral (take k bs) ≡ true → k ≤ number_len bs
number-most k bs fits is = prefix-most is_ascii_digit k bs fits (and_parts _ _ is).1

sign-most : (k : ℕ) (bs : List ℕ) → k ≤ length bs → is_some (sign_of (take k bs)) ≡ true → k ≤ sign_len bs
sign-most k bs fits is = by k fits is (let le : length (take k bs) ≤ 2 = sign-short (take k bs) is in let n = length-take-le k bs fits in omega (arith, le, n))
  where
    two : (c : Bool) → 2 ≤ length bs → c ≡ true → 2 ≤ cond c (length (take 2 bs)) (cond (is_some (sign_of (take 1 bs))) (length (take 1 bs)) 0)
    two true fits e = let n = length-take-le 2 bs fits in omega (arith, n)
    two false fits e = absurd cc

    one : (c d : Bool) → 1 ≤ length bs → d ≡ true → 1 ≤ cond c (length (take 2 bs)) (cond d (length (take 1 bs)) 0)
    one true d fits e = let n = length-take 2 bs in omega (arith, n)
    one false true fits e = let n = length-take-le 1 bs fits in omega (arith, n)
    one false false fits e = absurd cc

    by : (k : ℕ) → k ≤ length bs → is_some (sign_of (take k bs)) ≡ true → k ≤ 2 → k ≤ sign_len bs
    by zero fits is le = omega arith
    by (suc zero) fits is le = one (is_some (sign_of (take 2 bs))) (is_some (sign_of (take 1 bs))) fits is
    by (suc (suc zero)) fits is le = two (is_some (sign_of (take 2 bs))) fits is
    by (suc (suc (suc k))) fits is le = absurd (omega (arith, le))

pub token-most : (k : ℕ) (bs : List ℕ) → k ≤ length bs → is_token (take k bs) ≡ true → k ≤ token_len bs
token-most k bs fits is = by (or_cases (is_identifier (take k bs) || is_numeral (take k bs)) (is_some (sign_of (take k bs))) is)
  where
    first : (is_identifier (take k bs) ≡ true) ⊎ (is_numeral (take k bs) ≡ true) → k ≤ token_len bs
    first (inl e) = let n = name-most k bs fits e in omega (arith, n)
    first (inr e) = let n = number-most k bs fits e in omega (arith, n)

    by : ((is_identifier (take k bs) || is_numeral (take k bs)) ≡ true) ⊎ (is_some (sign_of (take k bs)) ≡ true) → k ≤ token_len bs
    by (inl e) = first (or_cases (is_identifier (take k bs)) (is_numeral (take k bs)) e)
    by (inr e) = let n = sign-most k bs fits e in omega (arith, n)

or-left : (a b c : Bool) → a ≡ true → (a || b || c) ≡ true
or-left a b c e = subst (λ (x : Bool). (x || b || c) ≡ true) (sym e) refl

or-middle : (a b c : Bool) → b ≡ true → (a || b || c) ≡ true
or-middle true b c e = refl
or-middle false b c e = subst (λ (x : Bool). (x || c) ≡ true) (sym e) refl

or-right : (a b c : Bool) → c ≡ true → (a || b || c) ≡ true
or-right true b c e = refl
or-right false true c e = refl
or-right false false c e = e

-- the longest name, number and sign are tokens
pub name-taken : (bs : List ℕ) → 0 < name_len bs → is_identifier (take (name_len bs) bs) ≡ true
name-taken [] some = absurd (omega (arith, some))
name-taken (b ∷ bs) some = by (is_letter b) refl some
  where
    first : (n : ℕ) → 0 < n → is_letter b ≡ true → list_all is_word_byte (take n (b ∷ bs)) ≡ true → is_identifier (take n (b ∷ bs)) ≡ true
    first zero some letter all = absurd (omega (arith, some))
    first (suc n) some letter all = subst (λ (c : Bool). (c && list_all is_word_byte (take (suc n) (b ∷ bs))) ≡ true) (sym letter) all

    by : (c : Bool) → is_letter b ≡ c → 0 < cond c (prefix_len is_word_byte (b ∷ bs)) 0 → is_identifier (take (cond c (prefix_len is_word_byte (b ∷ bs)) 0) (b ∷ bs)) ≡ true
    by true e some = first (prefix_len is_word_byte (b ∷ bs)) some e (prefix-all is_word_byte (b ∷ bs))
    by false e some = absurd (omega (arith, some))

pub number-taken : (bs : List ℕ) → 0 < number_len bs → is_numeral (take (number_len bs) bs) ≡ true
number-taken bs some = grind (arith, prefix-all, length-prefix_len)

take-length_take : (n : ℕ) (bs : List ℕ) → take (length (take n bs)) bs ≡ take n bs
take-length_take zero bs = refl
take-length_take (suc n) [] = refl
take-length_take (suc n) (b ∷ bs) = ap (λ (xs : List ℕ). b ∷ xs) (take-length_take n bs)

sign-taken : (bs : List ℕ) → 0 < sign_len bs → is_some (sign_of (take (sign_len bs) bs)) ≡ true
sign-taken bs some = by (is_some (sign_of (take 2 bs))) refl (is_some (sign_of (take 1 bs))) refl some
  where
    by : (c : Bool) → is_some (sign_of (take 2 bs)) ≡ c → (d : Bool) → is_some (sign_of (take 1 bs)) ≡ d → 0 < cond c (length (take 2 bs)) (cond d (length (take 1 bs)) 0)
        → is_some (sign_of (take (cond c (length (take 2 bs)) (cond d (length (take 1 bs)) 0)) bs)) ≡ true
    by true e d f some = ap (λ (t : List ℕ). is_some (sign_of t)) (take-length_take 2 bs) ∙ e
    by false e true f some = ap (λ (t : List ℕ). is_some (sign_of t)) (take-length_take 1 bs) ∙ f
    by false e false f some = absurd (omega (arith, some))

order : (a b : ℕ) → (a ≤ b) ⊎ (b ≤ a)
order a b = grind arith

max-cases : (a b : ℕ) → ((max a b ≡ a) × (b ≤ a)) ⊎ ((max a b ≡ b) × (a ≤ b))
max-cases a b = elim (order a b) [ inl h ↦ inr (omega (arith, h), h) | inr h ↦ inl (omega (arith, h), h) ]

pub token-taken : (bs : List ℕ) → 0 < token_len bs → is_token (take (token_len bs) bs) ≡ true
token-taken bs some = by (max-cases (name_len bs) (max (number_len bs) (sign_len bs)))
  where
    at : (n : ℕ) → token_len bs ≡ n → is_token (take n bs) ≡ true → is_token (take (token_len bs) bs) ≡ true
    at n e is = subst (λ (m : ℕ). is_token (take m bs) ≡ true) (sym e) is

    second : token_len bs ≡ max (number_len bs) (sign_len bs)
        → ((max (number_len bs) (sign_len bs) ≡ number_len bs) × (sign_len bs ≤ number_len bs)) ⊎ ((max (number_len bs) (sign_len bs) ≡ sign_len bs) × (number_len bs ≤ sign_len bs))
        → is_token (take (token_len bs) bs) ≡ true
    second e (inl h) = at (number_len bs) (e ∙ h.0) (or-middle (is_identifier (take (number_len bs) bs)) (is_numeral (take (number_len bs) bs)) (is_some (sign_of (take (number_len bs) bs))) (number-taken bs (omega (arith, some, e, h.0))))
    second e (inr h) = at (sign_len bs) (e ∙ h.0) (or-right (is_identifier (take (sign_len bs) bs)) (is_numeral (take (sign_len bs) bs)) (is_some (sign_of (take (sign_len bs) bs))) (sign-taken bs (omega (arith, some, e, h.0))))

    by : ((token_len bs ≡ name_len bs) × (max (number_len bs) (sign_len bs) ≤ name_len bs)) ⊎ ((token_len bs ≡ max (number_len bs) (sign_len bs)) × (name_len bs ≤ max (number_len bs) (sign_len bs)))
        → is_token (take (token_len bs) bs) ≡ true
    by (inl h) = at (name_len bs) h.0 (or-left (is_identifier (take (name_len bs) bs)) (is_numeral (take (name_len bs) bs)) (is_some (sign_of (take (name_len bs) bs))) (name-taken bs (omega (arith, some, h.0))))
    by (inr h) = second h.0 (max-cases (number_len bs) (sign_len bs))

name_len-fits : (bs : List ℕ) → name_len bs ≤ length bs
name_len-fits bs = grind (arith, prefix_len-le-length)

sign_len-fits : (bs : List ℕ) → sign_len bs ≤ length bs
sign_len-fits bs = by (is_some (sign_of (take 2 bs))) (is_some (sign_of (take 1 bs)))
  where
    by : (c d : Bool) → cond c (length (take 2 bs)) (cond d (length (take 1 bs)) 0) ≤ length bs
    by true d = let n = length-take 2 bs in omega (arith, n)
    by false true = let n = length-take 1 bs in omega (arith, n)
    by false false = omega arith

pub token_len-fits : (bs : List ℕ) → token_len bs ≤ length bs
token_len-fits bs = grind (arith, name_len-fits, prefix_len-le-length, sign_len-fits)
