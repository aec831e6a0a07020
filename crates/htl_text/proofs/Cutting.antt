-- The tokens that were found so far, and what is left.
use Rattle.std.proofs.Common.{arith, ◌+◌, ◌-◌, ◌^◌, ◌≡◌, ◌≢◌, ◌≤◌, ◌<◌, ℕ, pos, zero, suc, Bool, true, false, cond, not, ◌&&◌, ◌||◌, List, [], ◌∷◌, ◌++◌, length, map, take, drop, Option, None, Some, refl, sym, subst, ap, ◌∙◌, inl, inr, append-nil, length-append, length-take-le, length-drop}
use Rattle.std.specs.Prelude.{◌⊎◌, ◌==◌, nat_lt, is_some, find}
use Rattle.htl_text.proofs.Words.{list_any, zip, option_map, bytes_eq, digits_value, take-append-drop, bytes_eq-Decides, length-zip, nat_tests, is_identifier, is_reserved, is_name, words, look_up, is_token, is_numeral, token_of, word_of, sign_of, or_else, number_of, Gap, IsSpan, Item, Cuts, IsCut, Tokens, IsFault, Faults, AreHeld, skip, token_len, Token, Ident, Number, Word, Sign, ASign, LexFault}
use Rattle.htl_text.proofs.{Lengths.token-most, Lengths.token_len-fits, Skipping.IsSolid, Skipping.Skipped, Skipping.skipped, Skipping.IsSpan-front, Skipping.Cuts-push, Spellable.cuts-spellable}
use Rattle.htl_text.specs.declared.lexer.LexFault.TheVariants as fault

pub look_up-none : {T : Type 0} (es : List (List ℕ × T)) (text : List ℕ) → look_up es text ≡ None → list_any (bytes_eq text) (map (λ (e : List ℕ × T). e.0) es) ≡ false
look_up-none {T} [] text e = refl
look_up-none {T} (x ∷ xs) text e = by (bytes_eq x.0 text) refl e (λ f. look_up-none xs text f)
  where
    differs : bytes_eq x.0 text ≡ false → (b : Bool) → bytes_eq text x.0 ≡ b → b ≡ false
    differs unequal true f = let same = (bytes_eq-Decides x.0 text).1 (sym ((bytes_eq-Decides text x.0).0 f)) in cc
    differs unequal false f = refl

    by : (c : Bool) → bytes_eq x.0 text ≡ c → option_map (λ (y : List ℕ × T). y.1) (cond c (Some x) (find (λ (y : List ℕ × T). bytes_eq y.0 text) xs)) ≡ None
        → (look_up xs text ≡ None → list_any (bytes_eq text) (map (λ (y : List ℕ × T). y.0) xs) ≡ false)
        → list_any (bytes_eq text) (map (λ (y : List ℕ × T). y.0) (x ∷ xs)) ≡ false
    by true same f rest = absurd cc
    by false unequal f rest =
        ap (λ (b : Bool). b || list_any (bytes_eq text) (map (λ (y : List ℕ × T). y.0) xs)) (differs unequal (bytes_eq text x.0) refl) ∙ rest f

map-none : {A B : Type 0} (f : A → B) (o : Option A) → option_map f o ≡ None → o ≡ None
map-none f None e = refl
map-none f (Some x) e = absurd cc

or_else-none : {A : Type 0} (o p : Option A) → or_else o p ≡ None → (o ≡ None) × (p ≡ None)
or_else-none None p e = (refl, e)
or_else-none (Some x) p e = absurd cc

cond-none : {A : Type 0} (b : Bool) (x : A) → cond b (Some x) None ≡ None → b ≡ false
cond-none true x e = absurd cc
cond-none false x e = refl

number-large : (text : List ℕ) → is_numeral text ≡ true → token_of text ≡ None → 2 ^ 63 ≤ digits_value 10 text
number-large text is e =
    let none_is : option_map Number (number_of text) ≡ None = ap (λ (b : Bool). cond b (option_map Number (number_of text)) (other text)) (sym is) ∙ e in
    let large = cond-none (nat_lt (digits_value 10 text) (2 ^ 63)) (pos (digits_value 10 text)) (map-none Number (number_of text) none_is) in
    grind (arith, nat_tests, large)
  where
    other : List ℕ → Option Token
    other text = or_else (option_map Word (word_of text)) (or_else (option_map Sign (sign_of text)) (cond (is_name text) (Some (Ident text)) None))

name-long : (text : List ℕ) → is_numeral text ≡ false → token_of text ≡ None → is_token text ≡ true → (is_identifier text ≡ true) × (48 < length text)
name-long text no_number e token =
    let rest : or_else (option_map Word (word_of text)) (or_else (option_map Sign (sign_of text)) (cond (is_name text) (Some (Ident text)) None)) ≡ None =
    ap (λ (b : Bool). cond b (option_map Number (number_of text)) (or_else (option_map Word (word_of text)) (or_else (option_map Sign (sign_of text)) (cond (is_name text) (Some (Ident text)) None)))) (sym no_number) ∙ e in
    let one = or_else-none (option_map Word (word_of text)) (or_else (option_map Sign (sign_of text)) (cond (is_name text) (Some (Ident text)) None)) rest in
    let two = or_else-none (option_map Sign (sign_of text)) (cond (is_name text) (Some (Ident text)) None) one.1 in
    let no_sign : sign_of text ≡ None = map-none Sign (sign_of text) two.0 in
    let no_word : is_reserved text ≡ false = look_up-none words text (map-none Word (word_of text) one.0) in
    let no_name = cond-none (is_name text) (Ident text) two.1 in
    by (is_identifier text) (is_reserved text) (is_numeral text) (sign_of text) no_word no_number no_sign token no_name
  where
    by : (i r n : Bool) (s : Option ASign) → r ≡ false → n ≡ false → s ≡ None → (i || n || is_some s) ≡ true → (nat_lt (length text) 49 && i && not r) ≡ false
        → (i ≡ true) × (48 < length text)
    by true false false None a b c d f = (refl, grind (arith, nat_tests, f))
    by false false false None a b c d f = absurd cc
    by i true n s a b c d f = absurd cc
    by i r true s a b c d f = absurd cc
    by i r n (Some s) a b c d f = absurd cc

pub record IsCutting (bytes rest : List ℕ) (found : List Item) : Type 0 where
  pub end : ℕ
  pub at : end + length rest ≡ length bytes
  pub cuts : Cuts 0 bytes found end rest
  pub few : length found ≤ end

-- a gap and what stands behind it
record Stands (rest here : List ℕ) : Type 0 where
  gap : List ℕ
  is : Gap false false gap
  cut : rest ≡ gap ++ here
  long : length rest ≡ length gap + length here
  solid : IsSolid here

stands : (rest here : List ℕ) → here ≡ skip false rest → here ≢ [] → Stands rest here
stands rest here e some = by (skipped false rest)
  where
    solid : (s : Skipped false rest) → (skip false rest ≡ []) ⊎ ((s.to ≡ false) × IsSolid (skip false rest)) → (s.to ≡ false) × IsSolid (skip false rest)
    solid s (inl nothing) = absurd (some (e ∙ nothing))
    solid s (inr h) = h

    by : Skipped false rest → Stands rest here
    by s =
        let h = solid s s.ends in
        let cut : rest ≡ s.gap ++ here = s.cut ∙ ap (λ (xs : List ℕ). s.gap ++ xs) (sym e) in
        record {
          gap = s.gap;
          is = subst (λ (c : Bool). Gap false c s.gap) h.0 s.is;
          cut = cut;
          long = ap length cut ∙ length-append s.gap here;
          solid = subst IsSolid (sym e) h.1;
        }

pub skip-fits : (rest : List ℕ) → length (skip false rest) ≤ length rest
skip-fits rest =
    let s = skipped false rest in
    let n = ap length s.cut ∙ length-append s.gap (skip false rest) in
    omega (arith, n)

module _ (bytes rest here : List ℕ) (found : List Item) (so : IsCutting bytes rest found) (e : here ≡ skip false rest) where
  pub cut-more : here ≢ [] → 0 < token_len here → (token : Token) (offset : ℕ) → token_of (take (token_len here) here) ≡ Some token → offset ≡ length bytes - length here
      → IsCutting bytes (drop (token_len here) here) (found ++ (token, offset) ∷ [])
  cut-more some long token offset is place =
      let s = stands rest here e some in
      let text = take (token_len here) here in
      let left = drop (token_len here) here in
      let whole : text ++ left ≡ here = take-append-drop (token_len here) here in
      let cut : rest ≡ s.gap ++ (text ++ left) = s.cut ∙ ap (λ (xs : List ℕ). s.gap ++ xs) (sym whole) in
      let pushed = Cuts-push 0 bytes found so.end rest s.gap text left token so.cuts cut s.is (IsSpan-front here s.solid long) is in
      let fits = token_len-fits here in
      let text_len : length text ≡ token_len here = length-take-le (token_len here) here fits in
      let left_len : length left ≡ length here - token_len here = length-drop (token_len here) here in
      let same : so.end + length s.gap ≡ offset = omega (arith, so.at, s.long, place) in
      record {
        end = so.end + length s.gap + length text;
        at = omega (arith, so.at, s.long, text_len, left_len, fits);
        cuts = subst (λ (n : ℕ). Cuts 0 bytes (found ++ (token, n) ∷ []) (so.end + length s.gap + length text) left) same pushed;
        few = let n = length-append found ((token, offset) ∷ []) in omega (arith, n, so.few, text_len, long);
      }

  pub cut-end : here ≡ [] → IsCut bytes found
  cut-end nothing = by (skipped false rest)
    where
      by : Skipped false rest → IsCut bytes found
      by s =
          let cut : rest ≡ s.gap = s.cut ∙ ap (λ (xs : List ℕ). s.gap ++ xs) (sym e ∙ nothing) ∙ append-nil s.gap in
          (so.end, rest, s.to, so.cuts, subst (λ (xs : List ℕ). Gap false s.to xs) (sym cut) s.is)

  cut-fault : here ≢ [] → (offset : ℕ) → offset ≡ length bytes - length here → (f : ℕ → LexFault) → ((at : ℕ) → IsSolid here → IsFault at here (f at)) → Faults bytes (f offset)
  cut-fault some offset place f is =
      let s = stands rest here e some in
      let same : so.end + length s.gap ≡ offset = omega (arith, so.at, s.long, place) in (
        found,
        so.end,
        s.gap,
        here,
        subst (λ (xs : List ℕ). Cuts 0 bytes found so.end xs) s.cut so.cuts,
        s.is,
        subst (λ (g : LexFault). IsFault (so.end + length s.gap) here g) (ap f same) (is (so.end + length s.gap) s.solid),
      )

  no_token : token_len here ≡ 0 → (k : ℕ) → k ≤ length here → is_token (take k here) ≡ false
  no_token zero_len k fits = by k (is_token (take k here)) refl (λ is. token-most k here fits is)
    where
      by : (k : ℕ) (b : Bool) → is_token (take k here) ≡ b → (is_token (take k here) ≡ true → k ≤ token_len here) → is_token (take k here) ≡ false
      by k false is most = is
      by zero true is most = absurd cc
      by (suc k) true is most = let h = most is in absurd (omega (arith, h, zero_len))

  pub cut-char : here ≢ [] → token_len here ≡ 0 → (offset : ℕ) → offset ≡ length bytes - length here → Faults bytes (fault.Char offset)
  cut-char some zero_len offset place = cut-fault some offset place fault.Char (λ at solid. by here at solid (no_token zero_len))
    where
      by : (xs : List ℕ) (at : ℕ) → IsSolid xs → ((k : ℕ) → k ≤ length xs → is_token (take k xs) ≡ false) → IsFault at xs (fault.Char at)
      by [] at solid all = solid
      by (x ∷ xs) at solid all = (refl, solid.0, all)

  pub cut-number : here ≢ [] → 0 < token_len here → (offset : ℕ) → offset ≡ length bytes - length here → is_numeral (take (token_len here) here) ≡ true
      → token_of (take (token_len here) here) ≡ None → Faults bytes (fault.Number offset)
  cut-number some long offset place is e =
      cut-fault some offset place fault.Number (λ at solid. by here at solid (take (token_len here) here) (drop (token_len here) here) (sym (take-append-drop (token_len here) here)) (IsSpan-front here solid long) is (number-large (take (token_len here) here) is e))
    where
      by : (xs : List ℕ) (at : ℕ) → IsSolid xs → (text left : List ℕ) → xs ≡ text ++ left → IsSpan text left → is_numeral text ≡ true → 2 ^ 63 ≤ digits_value 10 text → IsFault at xs (fault.Number at)
      by [] at solid text left cut span is large = solid
      by (x ∷ xs) at solid text left cut span is large = (refl, (text, left, cut, span, is, large))

  pub cut-name : here ≢ [] → 0 < token_len here → (offset : ℕ) → offset ≡ length bytes - length here → is_numeral (take (token_len here) here) ≡ false
      → token_of (take (token_len here) here) ≡ None → Faults bytes (fault.NameLong offset)
  cut-name some long offset place is e =
      cut-fault some offset place fault.NameLong (λ at solid. by here at solid (take (token_len here) here) (drop (token_len here) here) (sym (take-append-drop (token_len here) here)) (IsSpan-front here solid long)
      (name-long (take (token_len here) here) is e (IsSpan-front here solid long).token))
    where
      by : (xs : List ℕ) (at : ℕ) → IsSolid xs → (text left : List ℕ) → xs ≡ text ++ left → IsSpan text left → (is_identifier text ≡ true) × (48 < length text) → IsFault at xs (fault.NameLong at)
      by [] at solid text left cut span is = solid
      by (x ∷ xs) at solid text left cut span is = (refl, (text, left, cut, span, is.0, is.1))

pub not_empty : (xs : List ℕ) → (length xs == 0) ≡ false → xs ≢ []
not_empty xs e none_left = let z : (length xs == 0) ≡ true = ap (λ (ys : List ℕ). length ys == 0) none_left in cc

pub is_empty : (xs : List ℕ) → (length xs == 0) ≡ true → xs ≡ []
is_empty [] e = refl
is_empty (x ∷ xs) e = grind arith

pub cut-shorter : (rest here : List ℕ) (n : ℕ) → here ≡ skip false rest → 0 < n → n ≤ length here → length (drop n here) < length rest
cut-shorter rest here n e some fits = grind (arith, skip-fits, length-drop)

zip-push : {A B : Type 0} (xs : List A) (ys : List B) (x : A) (y : B) → length ys ≡ length xs → zip (xs ++ x ∷ []) (ys ++ y ∷ []) ≡ zip xs ys ++ (x, y) ∷ []
zip-push [] [] x y e = refl
zip-push [] (b ∷ ys) x y e = absurd (omega (arith, e))
zip-push (a ∷ xs) [] x y e = absurd (omega (arith, e))
zip-push {A} {B} (a ∷ xs) (b ∷ ys) x y e = ap (λ (zs : List (A × B)). (a, b) ∷ zs) (zip-push xs ys x y (omega (arith, e)))

-- the tokens and offsets that were found so far
pub record AreFound (bytes rest : List ℕ) (tokens : List Token) (offsets : List ℕ) : Type 0 where
  pub paired : length offsets ≡ length tokens
  pub cutting : IsCutting bytes rest (zip tokens offsets)

pub AreFound-push : (bytes rest : List ℕ) (tokens : List Token) (offsets : List ℕ) (token : Token) (offset : ℕ) → length offsets ≡ length tokens
    → IsCutting bytes rest (zip tokens offsets ++ (token, offset) ∷ []) → AreFound bytes rest (tokens ++ token ∷ []) (offsets ++ offset ∷ [])
AreFound-push bytes rest tokens offsets token offset paired so = record {
  paired = let m = length-append offsets (offset ∷ []) in let n = length-append tokens (token ∷ []) in omega (arith, paired, m, n);
  cutting = subst (λ (items : List Item). IsCutting bytes rest items) (sym (zip-push tokens offsets token offset paired)) so;
}

pub AreFound-held : (bytes rest : List ℕ) (tokens : List Token) (offsets : List ℕ) → length bytes ≤ 1048576 → AreFound bytes rest tokens offsets → AreHeld tokens offsets
AreFound-held bytes rest tokens offsets fits so = record {
  paired = so.paired;
  short = let n = length-zip tokens offsets in omega (arith, n, so.paired, so.cutting.few, so.cutting.at, fits);
  spellable = cuts-spellable tokens offsets 0 bytes so.cutting.end rest so.paired so.cutting.cuts;
}

pub AreFound-end : (bytes rest here : List ℕ) (tokens : List Token) (offsets : List ℕ) (end : ℕ) → AreFound bytes rest tokens offsets → here ≡ skip false rest → here ≡ [] → end ≡ length bytes
    → Tokens bytes (record { tokens = tokens; offsets = offsets; end = end })
AreFound-end bytes rest here tokens offsets end so e nothing whole = record {
  paired = so.paired;
  cut = cut-end bytes rest here (zip tokens offsets) so.cutting e nothing;
  whole = whole;
}
