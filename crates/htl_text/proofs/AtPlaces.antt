-- The token at a place, as it is kept, and what begins there.
use Rattle.std.proofs.Common.{arith, ◌+◌, ◌^◌, ◌≡◌, ◌<◌, ℕ, ℤ, pos, zero, suc, Bool, true, false, cond, List, [], ◌∷◌, length, drop, Option, None, Some, refl, ap, sym, subst, ◌∙◌}
use Rattle.htl_text.proofs.Words.{slice_get, nat_lt, option_map, digits_value, slice_get-map, slice_get_within, is_name, text_in, spelled, token_in, tokens_in, kind_at, IsKept, kind_of, FirstIs, is_numeral, number_of, word_of, sign_of, token_of, or_else, Entry, Kind, ASign, Token, AWord}
use native.Mathlib.Numerals.{unary_clauses}
use Rattle.htl_text.proofs.Spellable.{spellable}
use Rattle.htl_text.specs.declared.token.Kind.TheVariants as kind
use Rattle.htl_text.specs.declared.token.Token.TheVariants as token

-- what begins where a token stands
pub drop-at : (ts : List Token) (place : ℕ) (t : Token) → slice_get ts place ≡ Some t → drop place ts ≡ t ∷ drop (place + 1) ts
drop-at [] place t e = absurd cc
drop-at (u ∷ ts) zero t e = let same : u ≡ t = cc in ap (λ (x : Token). x ∷ ts) same
drop-at (u ∷ ts) (suc place) t e = grind (arith, drop-at ts place t e)

drop-past : (ts : List Token) (place : ℕ) → slice_get ts place ≡ None → drop place ts ≡ []
drop-past [] zero e = refl
drop-past [] (suc place) e = refl
drop-past (u ∷ ts) zero e = absurd cc
drop-past (u ∷ ts) (suc place) e = drop-past ts place e

pub first-at : (ts : List Token) (place : ℕ) (k : Option Kind) → k ≡ option_map kind_of (slice_get ts place)
    → FirstIs k (drop place ts) (drop (place + 1) ts)
first-at ts place k e = grind (arith, drop-past, drop-at)

-- a token that is spelled is of its kind, and what is spelled of a kind is that token
kind_of-spelled : (k : Kind) (text : List ℕ) → kind_of (spelled k text) ≡ k
kind_of-spelled kind.Ident text = refl
kind_of-spelled _ text = refl

pub token_of-kind : (text : List ℕ) (k : Kind) → option_map kind_of (token_of text) ≡ Some k → token_of text ≡ Some (spelled k text)
token_of-kind text k e = by (is_numeral text) (word_of text) (sign_of text) (is_name text) e
  where
    one : (t : Token) → spelled (kind_of t) text ≡ t → ◌≡◌ {A = Option Kind} (Some (kind_of t)) (Some k) → ◌≡◌ {A = Option Token} (Some t) (Some (spelled k text))
    one t is e = let same : kind_of t ≡ k = cc in ap (λ (u : Token). Some u) (sym is ∙ ap (λ (j : Kind). spelled j text) same)

    number : (b : Bool) → option_map kind_of (option_map token.Number (cond b (Some (pos (digits_value 10 text))) None)) ≡ Some k
        → option_map token.Number (cond b (Some (pos (digits_value 10 text))) None) ≡ Some (spelled k text)
    number true e = one (token.Number (pos (digits_value 10 text))) refl e
    number false e = absurd cc

    by : (n : Bool) (w : Option AWord) (s : Option ASign) (name : Bool)
        → option_map kind_of (cond n (option_map token.Number (number_of text)) (or_else (option_map token.Word w) (or_else (option_map token.Sign s) (cond name (Some (token.Ident text)) None)))) ≡ Some k
        → cond n (option_map token.Number (number_of text)) (or_else (option_map token.Word w) (or_else (option_map token.Sign s) (cond name (Some (token.Ident text)) None))) ≡ Some (spelled k text)
    by true w s name e = number (nat_lt (digits_value 10 text) (2 ^ 63)) e
    by false (Some w) s name e = one (token.Word w) refl e
    by false None (Some s) name e = one (token.Sign s) refl e
    by false None None true e = one (token.Ident text) refl e
    by false None None false e = absurd cc

pub kept-name : (source : List ℕ) (entry : Entry) → IsKept source entry → entry.kind ≡ kind.Ident → is_name (text_in source entry) ≡ true
kept-name source entry kept e =
    spellable (text_in source entry) (token.Ident (text_in source entry)) (kept.1 ∙ ap (λ (k : Kind). Some (spelled k (text_in source entry))) e)

pub kept-number : (source : List ℕ) (entry : Entry) → IsKept source entry → entry.kind ≡ kind.Number
    → (is_numeral (text_in source entry) ≡ true) × (number_of (text_in source entry) ≡ Some (pos (digits_value 10 (text_in source entry))))
kept-number source entry kept e =
    of-number (text_in source entry) (pos (digits_value 10 (text_in source entry))) (kept.1 ∙ ap (λ (k : Kind). Some (spelled k (text_in source entry))) e)
  where
    one : (o : Option ℤ) (x : ℤ) → option_map token.Number o ≡ Some (token.Number x) → o ≡ Some x
    one None x e = absurd cc
    one (Some y) x e = cc

    of-number : (text : List ℕ) (x : ℤ) → token_of text ≡ Some (token.Number x) → (is_numeral text ≡ true) × (number_of text ≡ Some x)
    of-number text x e = by (is_numeral text) refl (word_of text) (sign_of text) (is_name text) e
      where
        by : (n : Bool) → is_numeral text ≡ n → (w : Option AWord) (s : Option ASign) (name : Bool)
            → cond n (option_map token.Number (number_of text)) (or_else (option_map token.Word w) (or_else (option_map token.Sign s) (cond name (Some (token.Ident text)) None))) ≡ Some (token.Number x)
            → (is_numeral text ≡ true) × (number_of text ≡ Some x)
        by true f w s name e = (f, one (number_of text) x e)
        by false f (Some w) s name e = absurd cc
        by false f None (Some s) name e = absurd cc
        by false f None None true e = absurd cc
        by false f None None false e = absurd cc

module _ (source : List ℕ) (entries : List Entry) (place : ℕ) where
  pub kinds-at : option_map kind_of (slice_get (tokens_in source entries) place) ≡ kind_at entries place
  kinds-at = grind (arith, slice_get-map, kind_of-spelled)

  pub token-at : (entry : Entry) → slice_get entries place ≡ Some entry → slice_get (tokens_in source entries) place ≡ Some (token_in source entry)
  token-at entry e = slice_get-map (token_in source) entries place ∙ ap (option_map (token_in source)) e

  pub entry-below : (k : Kind) → option_map kind_of (slice_get (tokens_in source entries) place) ≡ Some k → place < length entries
  entry-below k e = grind (arith, kinds-at, slice_get_within)

  pub entry-kind : (k : Kind) (entry : Entry) → slice_get entries place ≡ Some entry → option_map kind_of (slice_get (tokens_in source entries) place) ≡ Some k → entry.kind ≡ k
  entry-kind k entry f e = grind (arith, kinds-at)

pub ruleset at_places = (drop-at)
