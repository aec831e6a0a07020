-- The tokens of a text can be spelled.
use Rattle.std.proofs.Common.{arith, ◌+◌, ◌^◌, ◌≡◌, ℕ, pos, Bool, true, false, cond, List, [], ◌∷◌, length, Option, None, Some, refl, subst}
use Rattle.htl_text.proofs.Words.{nat_lt, zip, option_map, digits_value, nat_tests, is_name, IsSpellable, AreSpellable, Cuts, Tokens, is_numeral, number_of, or_else, token_of, word_of, sign_of, TokenList, Token, Ident, Number, Word, Sign, AWord, ASign}

inside : (t u : Token) → ◌≡◌ {A = Option Token} (Some t) (Some u) → IsSpellable t → IsSpellable u
inside t u e h = let same : t ≡ u = cc in subst IsSpellable same h

pub spellable : (text : List ℕ) (t : Token) → token_of text ≡ Some t → IsSpellable t
spellable text t e = by (is_numeral text) (word_of text) (sign_of text) (is_name text) refl e
  where
    number : (b : Bool) → nat_lt (digits_value 10 text) (2 ^ 63) ≡ b → option_map Number (cond b (Some (pos (digits_value 10 text))) None) ≡ Some t → IsSpellable t
    number true f e = inside (Number (pos (digits_value 10 text))) t e (digits_value 10 text, refl, grind (arith, nat_tests, f))
    number false f e = absurd cc

    by : (n : Bool) (w : Option AWord) (s : Option ASign) (name : Bool) → is_name text ≡ name
        → cond n (option_map Number (number_of text)) (or_else (option_map Word w) (or_else (option_map Sign s) (cond name (Some (Ident text)) None))) ≡ Some t → IsSpellable t
    by true w s name f e = number (nat_lt (digits_value 10 text) (2 ^ 63)) refl e
    by false (Some w) s name f e = inside (Word w) t e tt
    by false None (Some s) name f e = inside (Sign s) t e tt
    by false None None true f e = inside (Ident text) t e f
    by false None None false f e = absurd cc

pub cuts-spellable : (ts : List Token) (os : List ℕ) (at : ℕ) (bytes : List ℕ) (end : ℕ) (rest : List ℕ) → length os ≡ length ts → Cuts at bytes (zip ts os) end rest
    → AreSpellable ts
cuts-spellable [] os at bytes end rest e p = tt
cuts-spellable (t ∷ ts) [] at bytes end rest e p = absurd (omega (arith, e))
cuts-spellable (t ∷ ts) (o ∷ os) at bytes end rest e p =
    (spellable p.1 t p.6, cuts-spellable ts os (at + length p.0 + length p.1) p.2 end rest (omega (arith, e)) p.8)

pub tokens-spellable : (bytes : List ℕ) (t : TokenList) → Tokens bytes t → AreSpellable t.tokens
tokens-spellable bytes t h = let p = h.cut in cuts-spellable t.tokens t.offsets 0 bytes p.0 p.1 h.paired p.3
