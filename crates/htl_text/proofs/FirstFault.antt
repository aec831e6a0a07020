-- A text has tokens or a first fault, not both, and one first fault at most.
use Rattle.std.proofs.Common.{arith, ◌+◌, ◌^◌, ◌≡◌, ◌≤◌, ◌<◌, ℕ, zero, suc, pos, Bool, true, false, cond, not, ◌&&◌, List, [], ◌∷◌, ◌++◌, length, take, Option, None, Some, Result, Ok, Err, refl, sym, subst, ap, ◌∙◌, inl, inr, append-nil, length-append}
use Rattle.std.specs.Prelude.{◌==◌, nat_lt, is_some, slice_index}
use Rattle.htl_text.proofs.Words.{is_ascii_digit, list_all, zip, option_map, digits_value, take-append_seam, nat_tests, Decides-eqb, is_letter, is_word_byte, is_identifier, is_name, is_reserved, IsLexed, TellsTokens, TellsFault, is_token, is_numeral, token_of, word_of, sign_of, number_of, or_else, TokenList, Gap, IsSpan, Item, Cuts, Tokens, IsFault, Faults, is_blank, skip, token_len, Token, Ident, Number, Word, Sign, AWord, ASign, LexFault}
use Rattle.htl_text.proofs.{Lengths.token-taken, Lengths.token_len-fits, Lengths.sign-short, Lengths.word-short, Skipping.IsSolid}
use Rattle.htl_text.proofs.OneCut.{gap-skip, skip-solid, span-solid, span-len, Found, found, gap-nothing, span-some, Tokens-unique}
use Rattle.htl_text.specs.declared.lexer.LexFault.TheVariants as fault
use Rattle.htl_base.proofs.Tests.{and_none}

-- the fault of a place, by the longest token there
abbrev fault_at : ℕ → List ℕ → LexFault
fault_at at rest = cond (token_len rest == 0) (fault.Char at) (cond (is_numeral (take (token_len rest) rest)) (fault.Number at) (fault.NameLong at))

record AtFault (at : ℕ) (rest : List ℕ) (f : LexFault) : Type 0 where
  solid : IsSolid rest
  is : f ≡ fault_at at rest
  no_value : 0 < token_len rest → token_of (take (token_len rest) rest) ≡ None

no_token-len : (rest : List ℕ) → ((k : ℕ) → k ≤ length rest → is_token (take k rest) ≡ false) → token_len rest ≡ 0
no_token-len rest all = by (token_len rest) refl
  where
    by : (n : ℕ) → token_len rest ≡ n → token_len rest ≡ 0
    by zero e = e
    by (suc n) e =
        let is = token-taken rest (omega (arith, e)) in
        let isnt = all (token_len rest) (token_len-fits rest) in
        absurd cc

no_token-solid : (b : ℕ) (bs : List ℕ) → is_blank b ≡ false → ((k : ℕ) → k ≤ length (b ∷ bs) → is_token (take k (b ∷ bs)) ≡ false) → IsSolid (b ∷ bs)
no_token-solid b bs visible all = (visible, by (b == 47) refl)
  where
    by : (t : Bool) → (b == 47) ≡ t → (t && (slice_index bs 0 == 47)) ≡ false
    by false e = refl
    by true e =
        let slash : is_token (47 ∷ []) ≡ false = subst (λ (x : ℕ). is_token (x ∷ []) ≡ false) ((Decides-eqb b 47).0 e) (all 1 (omega arith)) in
        absurd cc

fault-char : (at : ℕ) (rest : List ℕ) → token_len rest ≡ 0 → fault_at at rest ≡ fault.Char at
fault-char at rest e = grind arith

positive : (n : ℕ) → 0 < n → (n == 0) ≡ false
positive n some = grind (arith, nat_tests)

fault-long : (at : ℕ) (rest : List ℕ) (b : Bool) → 0 < token_len rest → is_numeral (take (token_len rest) rest) ≡ b → fault_at at rest ≡ cond b (fault.Number at) (fault.NameLong at)
fault-long at rest b some e = grind (arith, positive)

-- the span at the front is the text of the longest token
record Front (rest text : List ℕ) : Type 0 where
  solid : IsSolid rest
  long : 0 < token_len rest
  taken : take (token_len rest) rest ≡ text

front : (rest text left : List ℕ) → rest ≡ text ++ left → IsSpan text left → Front rest text
front rest text left e s =
    let n : token_len rest ≡ length text = ap token_len e ∙ span-len text left s in
    let some = span-some text left s in
    record {
      solid = subst IsSolid (sym e) (span-solid text left s);
      long = omega (arith, n, some);
      taken = rw (n, e) (take-append_seam text left);
    }

number-none : (text : List ℕ) → is_numeral text ≡ true → 2 ^ 63 ≤ digits_value 10 text → token_of text ≡ None
number-none text is large =
    ap (λ (b : Bool). cond b (option_map Number (number_of text)) (or_else (option_map Word (word_of text)) (or_else (option_map Sign (sign_of text)) (cond (is_name text) (Some (Ident text)) None)))) is
    ∙ ap (λ (b : Bool). option_map Number (cond b (Some (pos (digits_value 10 text))) None)) small
  where
    small : nat_lt (digits_value 10 text) (2 ^ 63) ≡ false
    small = grind (arith, nat_tests, large)

pub letter-digit : (b : ℕ) → is_letter b ≡ true → is_ascii_digit b ≡ false
letter-digit b e = grind (arith, nat_tests, e)

pub identifier-number : (text : List ℕ) → is_identifier text ≡ true → is_numeral text ≡ false
identifier-number [] e = refl
identifier-number (b ∷ bs) e = grind (arith, letter-digit, and_none)

unknown : {T : Type 0} (o : Option T) (n m : ℕ) → m < n → (is_some o ≡ true → n ≤ m) → o ≡ None
unknown None n m more most = refl
unknown (Some x) n m more most = let few = most refl in absurd (omega (arith, few, more))

name-none : (text : List ℕ) → is_identifier text ≡ true → 48 < length text → token_of text ≡ None
name-none text is long =
    ap (λ (b : Bool). cond b (option_map Number (number_of text)) (other (word_of text) (sign_of text) (is_name text))) (identifier-number text is)
    ∙ ap (λ (w : Option AWord). other w (sign_of text) (is_name text)) (unknown (word_of text) (length text) 12 (omega (arith, long)) (word-short text))
    ∙ ap (λ (s : Option ASign). other None s (is_name text)) (unknown (sign_of text) (length text) 2 (omega (arith, long)) (sign-short text))
    ∙ ap (λ (b : Bool). cond (b && is_identifier text && not (is_reserved text)) (Some (Ident text)) None) short
  where
    other : Option AWord → Option ASign → Bool → Option Token
    other w s b = or_else (option_map Word w) (or_else (option_map Sign s) (cond b (Some (Ident text)) None))

    short : nat_lt (length text) 49 ≡ false
    short = grind (arith, nat_tests, long)

at-fault : (at : ℕ) (rest : List ℕ) (f : LexFault) → IsFault at rest f → AtFault at rest f
at-fault at [] f h = absurd h
at-fault at (b ∷ bs) (fault.Char o) h =
    let n = no_token-len (b ∷ bs) h.2 in
    record {
      solid = no_token-solid b bs h.1 h.2;
      is = ap fault.Char h.0 ∙ sym (fault-char at (b ∷ bs) n);
      no_value = λ some. absurd (omega (arith, n, some));
    }
at-fault at (b ∷ bs) (fault.Number o) h =
    let s = h.1 in
    let f = front (b ∷ bs) s.0 s.1 s.2 s.3 in
    record {
      solid = f.solid;
      is = ap fault.Number h.0 ∙ sym (fault-long at (b ∷ bs) true f.long (ap is_numeral f.taken ∙ s.4));
      no_value = λ some. ap token_of f.taken ∙ number-none s.0 s.4 s.5;
    }
at-fault at (b ∷ bs) (fault.NameLong o) h =
    let s = h.1 in
    let f = front (b ∷ bs) s.0 s.1 s.2 s.3 in
    record {
      solid = f.solid;
      is = ap fault.NameLong h.0 ∙ sym (fault-long at (b ∷ bs) false f.long (ap is_numeral f.taken ∙ identifier-number s.0 s.4));
      no_value = λ some. ap token_of f.taken ∙ name-none s.0 s.4 s.5;
    }
at-fault at (b ∷ bs) fault.Memory h = absurd h

-- what stands behind a gap is found by the scan
behind : (bytes gap rest : List ℕ) → gap ++ rest ≡ bytes → Gap false false gap → IsSolid rest → skip false bytes ≡ rest
behind bytes gap rest e g solid = ap (skip false) (sym e) ∙ gap-skip g rest ∙ skip-solid rest solid

-- a gap alone has no fault behind it
gap-sound : (c : Bool) (bytes gap rest : List ℕ) (at : ℕ) (f : LexFault) → Gap false c bytes → gap ++ rest ≡ bytes → Gap false false gap → AtFault at rest f → ⊥
gap-sound c bytes gap rest at f g e h a =
    let nothing : skip false bytes ≡ [] = subst (λ (xs : List ℕ). skip false xs ≡ []) (append-nil bytes) (gap-skip g []) in
    subst IsSolid (sym (behind bytes gap rest e h a.solid) ∙ nothing) a.solid

-- a token with a value has no fault at its place
value-sound : (bytes gap rest : List ℕ) (at : ℕ) (f : LexFault) (gap2 text left : List ℕ) (token : Token) → gap ++ rest ≡ bytes → Gap false false gap → AtFault at rest f
    → Found bytes gap2 text left → IsSpan text left → token_of text ≡ Some token → ⊥
value-sound bytes gap rest at f gap2 text left token e g a found s is =
    let here : skip false bytes ≡ rest = behind bytes gap rest e g a.solid in
    let n : token_len rest ≡ length text = ap token_len (sym here ∙ found.here) ∙ span-len text left s in
    let some = span-some text left s in
    let taken : take (token_len rest) rest ≡ text = subst (λ (xs : List ℕ). take (token_len xs) xs ≡ text) here found.text_is in
    let no_value : token_of (take (token_len rest) rest) ≡ None = a.no_value (omega (arith, n, some)) in
    let value : token_of (take (token_len rest) rest) ≡ Some token = ap token_of taken ∙ is in
    clash (token_of (take (token_len rest) rest)) no_value value
  where
    clash : (o : Option Token) → o ≡ None → o ≡ Some token → ⊥
    clash o e f = cc

cuts-sound : (at at2 : ℕ) (bytes : List ℕ) (xs ys : List Item) (end end2 : ℕ) (rest : List ℕ) (c : Bool) (gap2 rest2 : List ℕ) (place : ℕ) (f : LexFault)
    → Cuts at bytes xs end rest → Gap false c rest → Cuts at2 bytes ys end2 (gap2 ++ rest2) → Gap false false gap2 → AtFault place rest2 f → ⊥
cuts-sound at at2 bytes [] [] end end2 rest c gap2 rest2 place f p g q h a =
    gap-sound c bytes gap2 rest2 place f (subst (λ (bs : List ℕ). Gap false c bs) p.1 g) q.1 h a
cuts-sound at at2 bytes [] (y ∷ ys) end end2 rest c gap2 rest2 place f p g q h a = grind (arith, gap-nothing, found, span-some)
cuts-sound at at2 bytes (x ∷ xs) [] end end2 rest c gap2 rest2 place f p g q h a =
    value-sound bytes gap2 rest2 place f p.0 p.1 p.2 x.0 q.1 h a (found bytes p.0 p.1 p.2 p.3 p.4 p.5) p.5 p.6
cuts-sound at at2 bytes (x ∷ xs) (y ∷ ys) end end2 rest c gap2 rest2 place f p g q h a =
    let one = found bytes p.0 p.1 p.2 p.3 p.4 p.5 in
    let two = found bytes q.0 q.1 q.2 q.3 q.4 q.5 in
    let left : p.2 ≡ q.2 = sym one.left_is ∙ two.left_is in
    cuts-sound (at + length p.0 + length p.1) (at2 + length q.0 + length q.1) p.2 xs ys end end2 rest c gap2 rest2 place f p.8 g
    (subst (λ (bs : List ℕ). Cuts (at2 + length q.0 + length q.1) bs ys end2 (gap2 ++ rest2)) (sym left) q.8) h a

faults-equal : (at at2 : ℕ) (bytes : List ℕ) (xs ys : List Item) (end end2 : ℕ) (gap rest gap2 rest2 : List ℕ) (f g : LexFault) → at ≡ at2
    → Cuts at bytes xs end (gap ++ rest) → Gap false false gap → AtFault (end + length gap) rest f
    → Cuts at2 bytes ys end2 (gap2 ++ rest2) → Gap false false gap2 → AtFault (end2 + length gap2) rest2 g → f ≡ g
faults-equal at at2 bytes [] [] end end2 gap rest gap2 rest2 f g same p h a q i b =
    let rests : rest ≡ rest2 = sym (behind bytes gap rest p.1 h a.solid) ∙ behind bytes gap2 rest2 q.1 i b.solid in
    let size = ap length rests in
    let one = ap length p.1 in
    let two = ap length q.1 in
    let m = length-append gap rest in
    let n = length-append gap2 rest2 in
    let places : end + length gap ≡ end2 + length gap2 = omega (arith, same, p.0, q.0, size, one, two, m, n) in
    a.is ∙ ap (λ (k : ℕ). fault_at k rest) places ∙ ap (fault_at (end2 + length gap2)) rests ∙ sym b.is
faults-equal at at2 bytes [] (y ∷ ys) end end2 gap rest gap2 rest2 f g same p h a q i b =
    absurd (value-sound bytes gap rest (end + length gap) f q.0 q.1 q.2 y.0 p.1 h a (found bytes q.0 q.1 q.2 q.3 q.4 q.5) q.5 q.6)
faults-equal at at2 bytes (x ∷ xs) [] end end2 gap rest gap2 rest2 f g same p h a q i b =
    absurd (value-sound bytes gap2 rest2 (end2 + length gap2) g p.0 p.1 p.2 x.0 q.1 i b (found bytes p.0 p.1 p.2 p.3 p.4 p.5) p.5 p.6)
faults-equal at at2 bytes (x ∷ xs) (y ∷ ys) end end2 gap rest gap2 rest2 f g same p h a q i b =
    let one = found bytes p.0 p.1 p.2 p.3 p.4 p.5 in
    let two = found bytes q.0 q.1 q.2 q.3 q.4 q.5 in
    let left : p.2 ≡ q.2 = sym one.left_is ∙ two.left_is in
    let gaps : length p.0 ≡ length q.0 = let m = one.gap_is in let n = two.gap_is in omega (arith, m, n) in
    let size = ap length (sym one.text_is ∙ two.text_is) in
    faults-equal (at + length p.0 + length p.1) (at2 + length q.0 + length q.1) p.2 xs ys end end2 gap rest gap2 rest2 f g (omega (arith, same, gaps, size)) p.8 h a
    (subst (λ (bs : List ℕ). Cuts (at2 + length q.0 + length q.1) bs ys end2 (gap2 ++ rest2)) (sym left) q.8) i b

pub Tokens-sound : (bytes : List ℕ) (t : TokenList) (f : LexFault) → Tokens bytes t → Faults bytes f → ⊥
Tokens-sound bytes t f tokens q =
    let p = tokens.cut in
    cuts-sound 0 0 bytes (zip t.tokens t.offsets) q.0 p.0 q.1 p.1 p.2 q.2 q.3 (q.1 + length q.2) f p.3 p.4 q.4 q.5 (at-fault (q.1 + length q.2) q.3 f q.6)

pub Faults-unique : (bytes : List ℕ) (f g : LexFault) → Faults bytes f → Faults bytes g → f ≡ g
Faults-unique bytes f g p q =
    faults-equal 0 0 bytes p.0 q.0 p.1 q.1 p.2 p.3 q.2 q.3 f g refl p.4 p.5 (at-fault (p.1 + length p.2) p.3 f p.6) q.4 q.5
    (at-fault (q.1 + length q.2) q.3 g q.6)

pub tells-tokens : (bytes : List ℕ) (result : Result TokenList LexFault) → IsLexed bytes result → TellsTokens bytes result
tells-tokens bytes (Ok t) is u h = inl (ap Ok (Tokens-unique bytes t u is h))
tells-tokens bytes (Err (fault.Char o)) is u h = absurd (Tokens-sound bytes u (fault.Char o) h is)
tells-tokens bytes (Err (fault.Number o)) is u h = absurd (Tokens-sound bytes u (fault.Number o) h is)
tells-tokens bytes (Err (fault.NameLong o)) is u h = absurd (Tokens-sound bytes u (fault.NameLong o) h is)
tells-tokens bytes (Err fault.Memory) is u h = inr refl

pub tells-fault : (bytes : List ℕ) (result : Result TokenList LexFault) → IsLexed bytes result → TellsFault bytes result
tells-fault bytes (Ok t) is f h = absurd (Tokens-sound bytes t f is h)
tells-fault bytes (Err (fault.Char o)) is f h = inl (ap Err (Faults-unique bytes (fault.Char o) f is h))
tells-fault bytes (Err (fault.Number o)) is f h = inl (ap Err (Faults-unique bytes (fault.Number o) f is h))
tells-fault bytes (Err (fault.NameLong o)) is f h = inl (ap Err (Faults-unique bytes (fault.NameLong o) f is h))
tells-fault bytes (Err fault.Memory) is f h = inr refl
