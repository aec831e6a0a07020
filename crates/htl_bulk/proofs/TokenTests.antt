-- The tokens of the generated program: they can be spelled, and no run of them is long.
use Rattle.std.proofs.Common.{arith, ◌≡◌, ◌≤◌, ◌+◌, ◌^◌, ◌++◌, ◌&&◌, leb, leb-true, ltb, ltb-true, cond, ℕ, suc, pos, Bool, true, false, List, [], ◌∷◌, length, refl, ap, sym, ◌∙◌, subst, inl, inr}
use Rattle.htl_bulk.proofs.Words.{AreShort, AreSpellable, IsSpellable, IsStatementRun, Token, and_parts, ends_run, is_name, list_all}
use Rattle.std.specs.Prelude.{◌⊎◌}
use Rattle.htl_text.specs.declared.token.Token.TheVariants as token

-- ---- runs

-- where n tokens of a run stand before, it and all later runs have 512 tokens at most
abbrev few : ℕ → List Token → Bool
few n [] = true
few n (t ∷ ts) = cond (ends_run t) (few 0 ts) (ltb n 512 && few (suc n) ts)

-- behind a front, so many tokens of a run stand before
behind : (front ts : List Token) (n : ℕ) → few n (front ++ ts) ≡ true → (m : ℕ) × (few m ts ≡ true)
behind [] ts n h = (n, h)
behind (t ∷ front) ts n h = by (ends_run t) h (behind front ts 0) (behind front ts (suc n))
  where
    by : (b : Bool) → cond b (few 0 (front ++ ts)) (ltb n 512 && few (suc n) (front ++ ts)) ≡ true → (few 0 (front ++ ts) ≡ true → (m : ℕ) × (few m ts ≡ true))
        → (few (suc n) (front ++ ts) ≡ true → (m : ℕ) × (few m ts ≡ true)) → (m : ℕ) × (few m ts ≡ true)
    by true e new on = new e
    by false e new on = on (and_parts (ltb n 512) (few (suc n) (front ++ ts)) e).1

-- a run adds its length
along : (run rest : List Token) (n : ℕ) → IsStatementRun run → few n (run ++ rest) ≡ true → (length run ≤ 0) ⊎ (n + length run ≤ 512)
along [] rest n is h = inl (omega arith)
along (t ∷ run) rest n is h =
    let both = and_parts (ltb n 512) (few (suc n) (run ++ rest)) (sym (ap (λ b. cond b (few 0 (run ++ rest)) (ltb n 512 && few (suc n) (run ++ rest))) is.0) ∙ h) in
    let here = ltb-true n 512 both.0 in
    elim (along run rest (suc n) is.1 both.1) [ inl none ↦ inr (omega (arith, here, none)) | inr most ↦ inr (omega (arith, most)) ]

few_runs : (ts : List Token) → few 0 ts ≡ true → AreShort ts
few_runs ts h k long =
    let at = behind long.front (long.run ++ long.rest) 0 (subst (λ us. few 0 us ≡ true) long.cut h) in
    let size = long.long in
    elim (along long.run long.rest at.0 long.is_run at.1) [ inl none ↦ omega (arith, size, none) | inr most ↦ omega (arith, size, most) ]

-- ---- spelling

abbrev is_spellable : Token → Bool
is_spellable (token.Ident n) = is_name n
is_spellable (token.Number (pos k)) = ltb k (2 ^ 63)
is_spellable (token.Number _) = false
is_spellable _ = true

token_spellable : (t : Token) → is_spellable t ≡ true → IsSpellable t
token_spellable (token.Ident n) h = h
token_spellable (token.Number (pos k)) h = (k, refl, ltb-true k (2 ^ 63) h)
token_spellable (token.Number _) h = absurd (let z : ⊥ = cc in z)
token_spellable _ h = tt

spellable : (ts : List Token) → list_all is_spellable ts ≡ true → AreSpellable ts
spellable [] h = tt
spellable (t ∷ ts) h = let both = and_parts (is_spellable t) (list_all is_spellable ts) h in (token_spellable t both.0, spellable ts both.1)

-- ---- what the tests tell together

abbrev pub are_good_tokens : List Token → Bool
are_good_tokens ts = leb (length ts) 20000 && (few 0 ts && list_all is_spellable ts)

pub record AreGoodTokens (ts : List Token) : Type 0 where
  pub count : length ts ≤ 20000
  pub short : AreShort ts
  pub spellable : AreSpellable ts

pub good_tokens : (ts : List Token) → are_good_tokens ts ≡ true → AreGoodTokens ts
good_tokens ts h =
    let a = and_parts (leb (length ts) 20000) (few 0 ts && list_all is_spellable ts) h in
    let b = and_parts (few 0 ts) (list_all is_spellable ts) a.1 in
    record { count = leb-true (length ts) 20000 a.0; short = few_runs ts b.0; spellable = spellable ts b.1 }
