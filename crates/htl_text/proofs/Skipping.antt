-- How the code's scan finds the tokens.
use Rattle.std.proofs.Common.{arith, ◌+◌, ◌≡◌, ◌≤◌, ◌<◌, ℕ, zero, suc, Bool, true, false, cond, ◌&&◌, List, [], ◌∷◌, ◌++◌, length, take, drop, Some, refl, sym, subst, ap, ◌∙◌, inl, inr, append_assoc, length-take-le}
use Rattle.std.specs.Prelude.{◌⊎◌, ◌==◌, slice_index}
use Rattle.htl_text.proofs.Words.{take-append-drop, nat_tests, Decides-eqb, is_token, token_of, Gap, none, blank, begin, inside, feed, is_blank, IsSpan, Item, Cuts, skip, token_len, Token}
use Rattle.htl_text.proofs.Lengths.{token-most, token-taken, token_len-fits}

-- neither a blank nor a comment begins here
abbrev pub IsSolid : List ℕ → Type 0
IsSolid [] = ⊥
IsSolid (b ∷ bs) = (is_blank b ≡ false) × (((b == 47) && (slice_index bs 0 == 47)) ≡ false)

-- what the scan passes is a gap, and it stops at the end or where no gap goes on
pub record Skipped (c : Bool) (bytes : List ℕ) : Type 0 where
  pub gap : List ℕ
  pub to : Bool
  pub is : Gap c to gap
  pub cut : bytes ≡ gap ++ skip c bytes
  pub ends : (skip c bytes ≡ []) ⊎ ((to ≡ false) × IsSolid (skip c bytes))

module _ (c d : Bool) (front bytes rest : List ℕ) where
  longer : ((to : Bool) (gap : List ℕ) → Gap d to gap → Gap c to (front ++ gap)) → bytes ≡ front ++ rest → skip c bytes ≡ skip d rest → Skipped d rest → Skipped c bytes
  longer more cut same s = record {
    gap = front ++ s.gap;
    to = s.to;
    is = more s.to s.gap s.is;
    cut =
        cut ∙ ap (λ (xs : List ℕ). front ++ xs) s.cut ∙ sym (append_assoc front s.gap (skip d rest))
        ∙ ap (λ (xs : List ℕ). (front ++ s.gap) ++ xs) (sym same);
    ends = subst (λ (xs : List ℕ). (xs ≡ []) ⊎ ((s.to ≡ false) × IsSolid xs)) (sym same) s.ends;
  }

slash-case : (b : ℕ) (bs : List ℕ) → ((b == 47) && (slice_index bs 0 == 47)) ≡ true → (more : List ℕ) × (b ∷ bs ≡ 47 ∷ 47 ∷ more)
slash-case b [] e = absurd (by (b == 47) e)
  where
    by : (c : Bool) → (c && false) ≡ true → ⊥
    by true e = cc
    by false e = cc
slash-case b (d ∷ bs) e =
    let one : b ≡ 47 = grind (arith, nat_tests) in
    let two : d ≡ 47 = grind (arith, nat_tests) in
    (bs, ap (λ (x : ℕ). x ∷ d ∷ bs) one ∙ ap (λ (x : ℕ). 47 ∷ x ∷ bs) two)

outside : (b : ℕ) (bs : List ℕ) → Skipped false bs → ((more : List ℕ) → bs ≡ 47 ∷ more → Skipped true more) → Skipped false (b ∷ bs)
outside b bs off on = by (is_blank b) refl ((b == 47) && (slice_index bs 0 == 47)) refl
  where
    step : (t u : Bool) → is_blank b ≡ t → ((b == 47) && (slice_index bs 0 == 47)) ≡ u → skip false (b ∷ bs) ≡ cond t (skip false bs) (cond u (skip true bs) (b ∷ bs))
    step t u e f =
        ap (λ (x : Bool). cond x (skip false bs) (cond ((b == 47) && (slice_index bs 0 == 47)) (skip true bs) (b ∷ bs))) e
        ∙ ap (λ (x : Bool). cond t (skip false bs) (cond x (skip true bs) (b ∷ bs))) f

    by : (t : Bool) → is_blank b ≡ t → (u : Bool) → ((b == 47) && (slice_index bs 0 == 47)) ≡ u → Skipped false (b ∷ bs)
    by true e u f = longer false false (b ∷ []) (b ∷ bs) bs (λ to gap g. blank e g) refl (step true u e f) off
    by false e true f =
        let s = slash-case b bs f in
        let tail : bs ≡ 47 ∷ s.0 = cc in
        longer false true (47 ∷ 47 ∷ []) (b ∷ bs) s.0 (λ to gap g. begin g) s.1 (step false true e f ∙ ap (skip true) tail) (on s.0 tail)
    by false e false f = record {
      gap = [];
      to = false;
      is = none;
      cut = sym (step false false e f);
      ends = inr (refl, subst IsSolid (sym (step false false e f)) (e, f));
    }

within : (b : ℕ) (bs : List ℕ) → Skipped true bs → Skipped false bs → Skipped true (b ∷ bs)
within b bs on off = by (b == 10) refl
  where
    by : (t : Bool) → (b == 10) ≡ t → Skipped true (b ∷ bs)
    by true e =
        longer true false (b ∷ []) (b ∷ bs) bs (λ to gap g. subst (λ (x : ℕ). Gap true to (x ∷ gap)) (sym ((Decides-eqb b 10).0 e)) (feed g)) refl
        (ap (λ (t : Bool). cond t (skip false bs) (skip true bs)) e) off
    by false e = longer true true (b ∷ []) (b ∷ bs) bs (λ to gap g. inside e g) refl (ap (λ (t : Bool). cond t (skip false bs) (skip true bs)) e) on

pub skipped : (c : Bool) (bytes : List ℕ) → Skipped c bytes
skipped c [] = record { gap = []; to = c; is = none; cut = refl; ends = inl refl }
skipped true (b ∷ bs) = within b bs (skipped true bs) (skipped false bs)
skipped false (b ∷ []) = outside b [] (skipped false []) (λ more e. absurd cc)
skipped false (b ∷ d ∷ ds) =
    outside b (d ∷ ds) (skipped false (d ∷ ds)) (λ more e. let same : ds ≡ more = cc in subst (λ (xs : List ℕ). Skipped true xs) same (skipped true ds))

-- what the scan takes for a token is one
pub IsSpan-front : (bs : List ℕ) → IsSolid bs → 0 < token_len bs → IsSpan (take (token_len bs) bs) (drop (token_len bs) bs)
IsSpan-front bs solid some = record {
  token = token-taken bs some;
  longest = λ k more fits.
      let whole : take (token_len bs) bs ++ drop (token_len bs) bs ≡ bs = take-append-drop (token_len bs) bs in
      let n = length-take-le (token_len bs) bs (token_len-fits bs) in
      let within_bs : k ≤ length bs = subst (λ (xs : List ℕ). k ≤ length xs) whole fits in
      subst (λ (xs : List ℕ). is_token (take k xs) ≡ false) (sym whole)
      (by k (is_token (take k bs)) refl (λ is. let most = token-most k bs within_bs is in omega (arith, most, n, more)));
  no_comment = λ is. alone bs solid (token_len bs) is;
}
  where
    by : (k : ℕ) (t : Bool) → is_token (take k bs) ≡ t → (is_token (take k bs) ≡ true → ⊥) → is_token (take k bs) ≡ false
    by k true e no_token = absurd (no_token e)
    by k false e no_token = e

    alone : (xs : List ℕ) → IsSolid xs → (n : ℕ) → take n xs ≡ 47 ∷ [] → (slice_index (drop n xs) 0 == 47) ≡ false
    alone [] solid n e = absurd solid
    alone (b ∷ bs) solid zero e = absurd cc
    alone (b ∷ bs) solid (suc n) e =
        let one : b ≡ 47 = cc in
        let rest : take n bs ≡ [] = cc in
        second bs n rest (subst (λ (x : ℕ). ((x == 47) && (slice_index bs 0 == 47)) ≡ false) one solid.1)
      where
        second : (bs : List ℕ) (n : ℕ) → take n bs ≡ [] → (slice_index bs 0 == 47) ≡ false → (slice_index (drop n bs) 0 == 47) ≡ false
        second bs zero e f = f
        second [] (suc n) e f = f
        second (c ∷ cs) (suc n) e f = absurd cc

-- one more token behind those that were cut
pub Cuts-push : (at : ℕ) (bytes : List ℕ) (found : List Item) (end : ℕ) (rest gap text left : List ℕ) (token : Token) → Cuts at bytes found end rest
    → rest ≡ gap ++ (text ++ left) → Gap false false gap → IsSpan text left → token_of text ≡ Some token
    → Cuts at bytes (found ++ (token, end + length gap) ∷ []) (end + length gap + length text) left
Cuts-push at bytes [] end rest gap text left token cuts e g s is = (
  gap,
  text,
  left,
  sym cuts.1 ∙ e,
  g,
  s,
  is,
  ap (λ (n : ℕ). n + length gap) cuts.0,
  (ap (λ (n : ℕ). n + length gap + length text) cuts.0, refl),
)
Cuts-push at bytes (item ∷ items) end rest gap text left token cuts e g s is = (
  cuts.0,
  cuts.1,
  cuts.2,
  cuts.3,
  cuts.4,
  cuts.5,
  cuts.6,
  cuts.7,
  Cuts-push (at + length cuts.0 + length cuts.1) cuts.2 items end rest gap text left token cuts.8 e g s is,
)
