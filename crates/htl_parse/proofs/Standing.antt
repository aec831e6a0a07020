-- A sign or a word that must stand next.
use Rattle.std.proofs.Common.{arith, ◌≡◌, ◌≤◌, ◌<◌, ◌-◌, ℕ, zero, suc, Bool, true, false, cond, List, [], ◌∷◌, ◌+◌, length, drop, Option, None, Some, Ok, Err, refl, sym, subst, ap, ◌∙◌, length-drop}
use Rattle.htl_parse.proofs.Words.{option_map, drop_all, kind_of, FirstIs, Kind, next_kind, NextIs, behind, sign_code, word_code, Placed, Put, tokens_numbered, Token, Sign, Word}
use Rattle.std.specs.Prelude.{◌==◌, slice_get}
use native.Mathlib.Numerals.{unary_clauses}
use Rattle.htl_text.specs.declared.token.Kind.TheVariants as kind
use Rattle.htl_parse.specs.Reading.{◌>>=◌, after_sign, after_word, place_at, name_at, clause_by, clause_at}
use Rattle.htl_parse.proofs.Coding.{sign_code-equal, word_code-equal, code-same}
use Rattle.htl_text.specs.declared.token.Token.TheVariants as token

sign-there : (wanted : Sign) (k : ℕ) (new : List Placed) → after_sign wanted (Put k (token.Sign wanted) ∷ new) ≡ Ok new
sign-there wanted k new = ap (λ (b : Bool). cond b (Ok new) (Err (Put k (token.Sign wanted) ∷ new))) (code-same (sign_code wanted))

pub sign-passed : (wanted : Sign) (old new : List Placed) (k : ℕ) → old ≡ Put k (token.Sign wanted) ∷ new → after_sign wanted old ≡ Ok new
sign-passed wanted old new k is = ap (after_sign wanted) is ∙ sign-there wanted k new

pub sign-missing : (wanted : Sign) (old new : List Placed) → (new ≡ old) × ((k : ℕ) (rest : List Placed) → old ≡ Put k (token.Sign wanted) ∷ rest → ⊥) → after_sign wanted old ≡ Err new
sign-missing wanted (Put k (token.Sign s) ∷ us) new missing = by (sign_code s == sign_code wanted) refl
  where
    by : (b : Bool) → (sign_code s == sign_code wanted) ≡ b → cond b (Ok us) (Err (Put k (token.Sign s) ∷ us)) ≡ Err new
    by true e = absurd (missing.1 k us (ap (λ (x : Sign). Put k (token.Sign x) ∷ us) (sign_code-equal s wanted e)))
    by false e = ap Err (sym missing.0)
sign-missing wanted old new missing = ap Err (sym missing.0)

word-there : (wanted : Word) (k : ℕ) (new : List Placed) → after_word wanted (Put k (token.Word wanted) ∷ new) ≡ Ok new
word-there wanted k new = ap (λ (b : Bool). cond b (Ok new) (Err (Put k (token.Word wanted) ∷ new))) (code-same (word_code wanted))

pub word-passed : (wanted : Word) (old new : List Placed) (k : ℕ) → old ≡ Put k (token.Word wanted) ∷ new → after_word wanted old ≡ Ok new
word-passed wanted old new k is = ap (after_word wanted) is ∙ word-there wanted k new

pub word-missing : (wanted : Word) (old new : List Placed) → (new ≡ old) × ((k : ℕ) (rest : List Placed) → old ≡ Put k (token.Word wanted) ∷ rest → ⊥) → after_word wanted old ≡ Err new
word-missing wanted (Put k (token.Word w) ∷ us) new missing = by (word_code w == word_code wanted) refl
  where
    by : (b : Bool) → (word_code w == word_code wanted) ≡ b → cond b (Ok us) (Err (Put k (token.Word w) ∷ us)) ≡ Err new
    by true e = absurd (missing.1 k us (ap (λ (x : Word). Put k (token.Word x) ∷ us) (word_code-equal w wanted e)))
    by false e = ap Err (sym missing.0)
word-missing wanted old new missing = ap Err (sym missing.0)

pub ruleset stands = (sign-passed, sign-missing, word-passed, word-missing)

pub length-numbered : (n : ℕ) (ts : List Token) → length (tokens_numbered n ts) ≡ length ts
length-numbered n [] = refl
length-numbered n (t ∷ ts) = let e = length-numbered (n + 1) ts in omega (arith, e)

-- ---- the token at a place, and what stands from it on

-- what the first token is
pub next-first : (n : ℕ) (ts us : List Token) (k : Option Kind) → FirstIs k ts us → NextIs (tokens_numbered n ts) k
next-first n ts us None e = ap (tokens_numbered n) e
next-first n ts us (Some kind.Ident) e =
    subst (λ (vs : List Token). NextIs (tokens_numbered n vs) (Some kind.Ident)) (sym e.1) (e.0, refl)
next-first n ts us (Some kind.Number) e =
    subst (λ (vs : List Token). NextIs (tokens_numbered n vs) (Some kind.Number)) (sym e.1) (e.0, refl)
next-first n ts us (Some (kind.Word w)) e = subst (λ (vs : List Token). NextIs (tokens_numbered n vs) (Some (kind.Word w))) (sym e) refl
next-first n ts us (Some (kind.Sign s)) e = subst (λ (vs : List Token). NextIs (tokens_numbered n vs) (Some (kind.Sign s))) (sym e) refl

pub kind-at : (n p : ℕ) (ts : List Token) → next_kind (tokens_numbered n (drop p ts)) ≡ option_map kind_of (slice_get ts p)
kind-at n zero [] = refl
kind-at n (suc p) (t ∷ ts) = kind-at n p ts
kind-at n _ _ = refl

pub next-is : (n : ℕ) (ts us : List Token) (t : Token) → ts ≡ t ∷ us → tokens_numbered n ts ≡ Put (place_at (tokens_numbered n ts)) t ∷ behind (tokens_numbered n ts)
next-is n ts us t e = subst (λ (vs : List Token). tokens_numbered n vs ≡ Put (place_at (tokens_numbered n vs)) t ∷ behind (tokens_numbered n vs)) (sym e) refl

pub behind-at : (n p : ℕ) (ts : List Token) → behind (tokens_numbered n (drop p ts)) ≡ tokens_numbered (n + 1) (drop (p + 1) ts)
behind-at n zero [] = refl
behind-at n zero (t ∷ ts) = refl
behind-at n (suc p) [] = ap (tokens_numbered (n + 1)) (sym (drop_all (suc p + 1) [] (omega arith)))
behind-at n (suc p) (t ∷ ts) = behind-at n p ts ∙ ap (tokens_numbered (n + 1)) (sym (later p t ts))
  where
    later : (p : ℕ) (t : Token) (ts : List Token) → drop (suc p + 1) (t ∷ ts) ≡ drop (p + 1) ts
    later p t ts = simp unary_clauses

pub place-at : (n p : ℕ) (ts : List Token) → p < length ts → place_at (tokens_numbered n (drop p ts)) ≡ n
place-at n p [] below = absurd (omega (arith, below))
place-at n zero (t ∷ ts) below = refl
place-at n (suc p) (t ∷ ts) below = place-at n p ts (omega (arith, below))

pub none-at : (n p : ℕ) (ts : List Token) → length ts ≤ p → tokens_numbered n (drop p ts) ≡ []
none-at n p ts past = ap (tokens_numbered n) (drop_all p ts past)

pub length-at : (n p : ℕ) (ts : List Token) → length (tokens_numbered n (drop p ts)) ≡ length ts - p
length-at n p ts = length-numbered n (drop p ts) ∙ length-drop p ts

-- a word that is looked for, and a name behind it
pub clause-present : (wanted : Word) (old new : List Placed) (k : ℕ) → old ≡ Put k (token.Word wanted) ∷ new → clause_at wanted old ≡ (name_at new >>= λ n. Ok (Some n.0, n.1))
clause-present wanted old new k is = ap (clause_at wanted) is ∙ ap (clause_by (Put k (token.Word wanted) ∷ new) new) (code-same (word_code wanted))

pub clause-absent : (wanted : Word) (old new : List Placed) → (new ≡ old) × ((k : ℕ) (rest : List Placed) → old ≡ Put k (token.Word wanted) ∷ rest → ⊥) → clause_at wanted old ≡ Ok (None, new)
clause-absent wanted (Put k (token.Word w) ∷ us) new missing = by (word_code w == word_code wanted) refl
  where
    by : (b : Bool) → (word_code w == word_code wanted) ≡ b → clause_by (Put k (token.Word w) ∷ us) us b ≡ Ok (None, new)
    by true e = absurd (missing.1 k us (ap (λ (x : Word). Put k (token.Word x) ∷ us) (word_code-equal w wanted e)))
    by false e = ap (λ (ts : List Placed). Ok (None, ts)) (sym missing.0)
clause-absent wanted old new missing = ap (λ (ts : List Placed). Ok (None, ts)) (sym missing.0)

pub ruleset clauses = (clause-present, clause-absent)

pub ruleset places = (place-at, behind-at, none-at)
