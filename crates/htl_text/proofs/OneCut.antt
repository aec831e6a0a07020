-- A text has one list of tokens.
use Rattle.std.proofs.Common.{arith, ◌+◌, ◌≡◌, ◌≤◌, ◌<◌, ℕ, Bool, true, false, cond, ◌&&◌, ◌||◌, List, [], ◌∷◌, ◌++◌, length, map, take, drop, Option, Some, refl, sym, subst, ap, ◌∙◌, inl, inr, length-append, append-nil}
use Rattle.std.specs.Prelude.{◌⊎◌, ◌==◌, slice_index, is_some, nat_lt}
use Rattle.htl_text.proofs.Words.{is_ascii_digit, list_all, zip, take-append_seam, drop-append_seam, firsts-zip, seconds-zip, nat_tests, Decides-eqb, is_identifier, is_token, is_numeral, sign_of, token_of, Gap, none, blank, begin, inside, feed, is_blank, IsSpan, Item, Cuts, IsCut, Tokens, TokenList, skip, token_len, Token, cases_le}
use Rattle.htl_text.proofs.{Lengths.token-most, Lengths.token-taken, Lengths.token_len-fits, Skipping.IsSolid}
use Rattle.htl_base.proofs.Tests.{and_none}

-- a gap is passed whole
pub gap-skip : {from to : Bool} {gap : List ℕ} → Gap from to gap → (rest : List ℕ) → skip from (gap ++ rest) ≡ skip to rest
gap-skip none rest = refl
gap-skip (blank {c} {b} {bs} e g) rest = grind (arith, gap-skip g rest)
gap-skip (begin g) rest = gap-skip g rest
gap-skip (inside {c} {b} {bs} e g) rest = ap (λ (t : Bool). cond t (skip false (bs ++ rest)) (skip true (bs ++ rest))) e ∙ gap-skip g rest
gap-skip (feed g) rest = gap-skip g rest

pub skip-solid : (bs : List ℕ) → IsSolid bs → skip false bs ≡ bs
skip-solid [] solid = absurd solid
skip-solid (b ∷ bs) solid = grind arith

-- no token begins with a blank
no_token : (b : ℕ) (bs : List ℕ) → is_identifier (b ∷ bs) ≡ false → (is_ascii_digit b) ≡ false → is_some (sign_of (b ∷ bs)) ≡ false → is_token (b ∷ bs) ≡ false
no_token b bs i d s = grind (arith, and_none)

blank-no_token : (b : ℕ) (bs : List ℕ) → is_blank b ≡ true → is_token (b ∷ bs) ≡ false
blank-no_token b bs e = by (which b e)
  where
    which : (b : ℕ) → is_blank b ≡ true → (b ≡ 32) ⊎ ((b ≡ 9) ⊎ ((b ≡ 13) ⊎ (b ≡ 10)))
    which b e = grind (arith, nat_tests, e)

    at : (d : ℕ) → b ≡ d → is_token (d ∷ bs) ≡ false → is_token (b ∷ bs) ≡ false
    at d same f = subst (λ (x : ℕ). is_token (x ∷ bs) ≡ false) (sym same) f

    by : (b ≡ 32) ⊎ ((b ≡ 9) ⊎ ((b ≡ 13) ⊎ (b ≡ 10))) → is_token (b ∷ bs) ≡ false
    by (inl h) = at 32 h (no_token 32 bs refl refl refl)
    by (inr (inl h)) = at 9 h (no_token 9 bs refl refl refl)
    by (inr (inr (inl h))) = at 13 h (no_token 13 bs refl refl refl)
    by (inr (inr (inr h))) = at 10 h (no_token 10 bs refl refl refl)

-- where a token stands, neither a blank nor a comment begins
pub span-solid : (text left : List ℕ) → IsSpan text left → IsSolid (text ++ left)
span-solid [] left s = let e = s.token in absurd cc
span-solid (b ∷ bs) left s = (visible (is_blank b) refl, comment bs s)
  where
    visible : (t : Bool) → is_blank b ≡ t → is_blank b ≡ false
    visible true e = let f = blank-no_token b bs e in let g = s.token in absurd cc
    visible false e = e

    slash : (d : ℕ) (ds : List ℕ) → is_token (47 ∷ d ∷ ds) ≡ false
    slash d ds = no_token 47 (d ∷ ds) refl refl refl

    comment : (bs : List ℕ) → IsSpan (b ∷ bs) left → ((b == 47) && (slice_index (bs ++ left) 0 == 47)) ≡ false
    comment [] s = grind (arith, Decides-eqb)
    comment (d ∷ ds) s = grind (arith, slash, Decides-eqb)

-- its length is that of the longest token
pub span-len : (text left : List ℕ) → IsSpan text left → token_len (text ++ left) ≡ length text
span-len text left s = by (cases_le (token_len (text ++ left)) (length text)) least
  where
    least : length text ≤ token_len (text ++ left)
    least = token-most (length text) (text ++ left) (let n = length-append text left in omega (arith, n)) (rw (take-append_seam text left) s.token)

    by : (token_len (text ++ left) ≤ length text) ⊎ (length text < token_len (text ++ left)) → length text ≤ token_len (text ++ left) → token_len (text ++ left) ≡ length text
    by (inl h) more = omega (arith, h, more)
    by (inr h) more =
        let f = s.longest (token_len (text ++ left)) h (token_len-fits (text ++ left)) in
        let g = token-taken (text ++ left) (omega (arith, h)) in
        absurd cc

-- what stands behind a gap is found by the scan
pub record Found (bytes gap text left : List ℕ) : Type 0 where
  pub here : skip false bytes ≡ text ++ left
  pub text_is : take (token_len (skip false bytes)) (skip false bytes) ≡ text
  pub left_is : drop (token_len (skip false bytes)) (skip false bytes) ≡ left
  pub gap_is : length gap + length (skip false bytes) ≡ length bytes

pub found : (bytes gap text left : List ℕ) → bytes ≡ gap ++ (text ++ left) → Gap false false gap → IsSpan text left → Found bytes gap text left
found bytes gap text left e g s =
    let here : skip false bytes ≡ text ++ left = ap (skip false) e ∙ gap-skip g (text ++ left) ∙ skip-solid (text ++ left) (span-solid text left s) in
    let n : token_len (skip false bytes) ≡ length text = ap token_len here ∙ span-len text left s in
    record {
      here = here;
      text_is = rw (n, here) (take-append_seam text left);
      left_is = rw (n, here) (drop-append_seam text left);
      gap_is = let m = ap length e ∙ length-append gap (text ++ left) in let h = ap length here in omega (arith, m, h);
    }

-- blanks and comments alone hold no token
pub gap-nothing : (c : Bool) (bytes gap text left : List ℕ) → Gap false c bytes → Found bytes gap text left → 0 < length text → ⊥
gap-nothing c bytes gap text left g f some =
    let e : skip false (bytes ++ []) ≡ [] = gap-skip g [] in
    let nothing : skip false bytes ≡ [] = subst (λ (xs : List ℕ). skip false xs ≡ []) (append-nil bytes) e in
    let n = ap length (sym f.here ∙ nothing) ∙ refl in
    let m = length-append text left in
    omega (arith, n, m, some)

pub span-some : (text left : List ℕ) → IsSpan text left → 0 < length text
span-some [] left s = let e = s.token in absurd cc
span-some (b ∷ bs) left s = omega arith

pub Cuts-unique : (at at2 : ℕ) (bytes : List ℕ) (xs ys : List Item) (end end2 : ℕ) (rest rest2 : List ℕ) (c d : Bool) → at ≡ at2
    → Cuts at bytes xs end rest → Gap false c rest → Cuts at2 bytes ys end2 rest2 → Gap false d rest2 → xs ≡ ys
Cuts-unique at at2 bytes [] [] end end2 rest rest2 c d same p g q h = refl
Cuts-unique at at2 bytes [] (y ∷ ys) end end2 rest rest2 c d same p g q h =
    absurd (gap-nothing c bytes q.0 q.1 q.2 (subst (λ (bs : List ℕ). Gap false c bs) p.1 g) (found bytes q.0 q.1 q.2 q.3 q.4 q.5) (span-some q.1 q.2 q.5))
Cuts-unique at at2 bytes (x ∷ xs) [] end end2 rest rest2 c d same p g q h =
    absurd (gap-nothing d bytes p.0 p.1 p.2 (subst (λ (bs : List ℕ). Gap false d bs) q.1 h) (found bytes p.0 p.1 p.2 p.3 p.4 p.5) (span-some p.1 p.2 p.5))
Cuts-unique at at2 bytes (x ∷ xs) (y ∷ ys) end end2 rest rest2 c d same p g q h =
    let a = found bytes p.0 p.1 p.2 p.3 p.4 p.5 in
    let b = found bytes q.0 q.1 q.2 q.3 q.4 q.5 in
    let text : p.1 ≡ q.1 = sym a.text_is ∙ b.text_is in
    let left : p.2 ≡ q.2 = sym a.left_is ∙ b.left_is in
    let gap : length p.0 ≡ length q.0 = let m = a.gap_is in let n = b.gap_is in omega (arith, m, n) in
    let token : x.0 ≡ y.0 = one (token_of p.1) (token_of q.1) x.0 y.0 (ap token_of text) p.6 q.6 in
    let place : x.1 ≡ y.1 = let u = p.7 in let v = q.7 in omega (arith, u, v, gap, same) in
    let size = ap length text in
    let others =
    Cuts-unique (at + length p.0 + length p.1) (at2 + length q.0 + length q.1) p.2 xs ys end end2 rest rest2 c d (omega (arith, same, gap, size)) p.8 g
    (subst (λ (bs : List ℕ). Cuts (at2 + length q.0 + length q.1) bs ys end2 rest2) (sym left) q.8) h in
    ap (λ (t : Token). (t, x.1) ∷ xs) token ∙ ap (λ (n : ℕ). (y.0, n) ∷ xs) place ∙ ap (λ (zs : List Item). y ∷ zs) others
  where
    one : (o p : Option Token) (t u : Token) → o ≡ p → o ≡ Some t → p ≡ Some u → t ≡ u
    one o p t u e f g = cc

pub IsCut-unique : (bytes : List ℕ) (xs ys : List Item) → IsCut bytes xs → IsCut bytes ys → xs ≡ ys
IsCut-unique bytes xs ys p q = Cuts-unique 0 0 bytes xs ys p.0 q.0 p.1 q.1 p.2 q.2 refl p.3 p.4 q.3 q.4

pub Tokens-unique : (bytes : List ℕ) (t u : TokenList) → Tokens bytes t → Tokens bytes u → t ≡ u
Tokens-unique bytes t u p q =
    let items = IsCut-unique bytes (zip t.tokens t.offsets) (zip u.tokens u.offsets) p.cut q.cut in
    let tokens : t.tokens ≡ u.tokens =
    sym (firsts-zip t.tokens t.offsets p.paired) ∙ ap (map (λ (i : Item). i.0)) items ∙ firsts-zip u.tokens u.offsets q.paired in
    let offsets : t.offsets ≡ u.offsets =
    sym (seconds-zip t.tokens t.offsets p.paired) ∙ ap (map (λ (i : Item). i.1)) items ∙ seconds-zip u.tokens u.offsets q.paired in
    let make : List Token → List ℕ → ℕ → TokenList = λ ts os n. record { tokens = ts; offsets = os; end = n } in
    ap (λ (ts : List Token). make ts t.offsets t.end) tokens ∙ ap (λ (os : List ℕ). make u.tokens os t.end) offsets
    ∙ ap (make u.tokens u.offsets) (p.whole ∙ sym q.whole)
