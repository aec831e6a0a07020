-- From the two laws of the reader of sources to the first token that doesn't fit.
use Rattle.std.proofs.Common.{arith, ◌≡◌, ◌≤◌, ◌+◌, ◌-◌, ℕ, suc, List, [], ◌∷◌, ◌++◌, length, Ok, Err, refl, sym, subst, ap, ◌∙◌, inl, inr, length-append, append_assoc}
use Rattle.std.specs.Prelude.{◌<◌}
use Rattle.htl_parse.proofs.Words.{first-unique, Placed, Put, tokens_numbered, PlainProgram, SpellsSource, Token, Spell, Begins, IsMisfit, Read, left_of, source_at}
use Rattle.htl_parse.proofs.{Fronts.onto, Fronts.Tells, Sources.source-complete, Standing.length-numbered, Locality.Alike, Locality.here, Locality.later, Locality.Both, LocalStatements.source-local, ViableSources.source-tells}

-- where a list of numbered tokens is cut
pub record Cut (n : ℕ) (tokens : List Token) (front left : List Placed) : Type 0 where
  pub a : List Token
  pub b : List Token
  pub cut : tokens ≡ a ++ b
  pub before : (other : List Placed) → front ++ other ≡ onto n a other
  pub after : left ≡ tokens_numbered (n + length a) b

cut-more : (n : ℕ) (t : Token) (tokens : List Token) (p : Placed) (front left : List Placed) → Put n t ≡ p → Cut (n + 1) tokens front left → Cut n (t ∷ tokens) (p ∷ front) left
cut-more n t tokens p front left same c =
    let e : n + 1 + length c.a ≡ n + length (t ∷ c.a) = omega arith in
    record {
      a = t ∷ c.a;
      b = c.b;
      cut = ap (λ (l : List Token). t ∷ l) c.cut;
      before = λ o. ap (λ (q : Placed). q ∷ (front ++ o)) (sym same) ∙ ap (λ (l : List Placed). Put n t ∷ l) (c.before o);
      after = c.after ∙ ap (λ (i : ℕ). tokens_numbered i c.b) e;
    }

cut-at : (n : ℕ) (tokens : List Token) (front left : List Placed) → tokens_numbered n tokens ≡ front ++ left → Cut n tokens front left
cut-at n tokens [] left e =
    let nil : List Token = [] in
    let z : n ≡ n + length nil = omega arith in
    record { a = []; b = tokens; cut = refl; before = λ o. refl; after = sym e ∙ ap (λ (i : ℕ). tokens_numbered i tokens) z }
cut-at n [] (p ∷ front) left e = absurd cc
cut-at n (t ∷ tokens) (p ∷ front) left e = cut-more n t tokens p front left (cc) (cut-at (n + 1) tokens front left (cc))

onto-nil : (n : ℕ) (ts : List Token) → onto n ts [] ≡ tokens_numbered n ts
onto-nil n [] = refl
onto-nil n (t ∷ ts) = ap (λ (l : List Placed). Put n t ∷ l) (onto-nil (n + 1) ts)

onto-numbered : (n i : ℕ) (a b : List Token) → i ≡ n + length a → onto n a (onto i b []) ≡ tokens_numbered n (a ++ b)
onto-numbered n i [] b e = let z : i ≡ n = omega (arith, e) in onto-nil i b ∙ ap (λ (j : ℕ). tokens_numbered j b) z
onto-numbered n i (t ∷ a) b e = ap (λ (l : List Placed). Put n t ∷ l) (onto-numbered (n + 1) i a b (omega (arith, e)))

-- two texts that share a and t
pub record Sharing (n : ℕ) (a : List Token) (t : Token) (c more : List Token) : Type 0 where
  pub m : List Placed
  pub k : List Placed
  pub size : length m ≡ length c
  pub alike : Alike m k (tokens_numbered n (a ++ (t ∷ c))) (tokens_numbered n ((a ++ (t ∷ [])) ++ more))

sharing : (n : ℕ) (a : List Token) (t : Token) (c more : List Token) → Sharing n a t c more
sharing n [] t c more = record { m = tokens_numbered (n + 1) c; k = tokens_numbered (n + 1) more; size = length-numbered (n + 1) c; alike = here (Put n t) }
sharing n (s ∷ a) t c more = let x = sharing (n + 1) a t c more in record {
  m = x.m;
  k = x.k;
  size = x.size;
  alike = later (Put n s) (tokens_numbered (n + 1) (a ++ (t ∷ c))) (tokens_numbered (n + 1) ((a ++ (t ∷ [])) ++ more)) x.alike;
}

no-end : (m k us : List Placed) → Alike m k us [] → ⊥
no-end m k us al = by us [] al refl
  where
    by : (us vs : List Placed) → Alike m k us vs → vs ≡ [] → ⊥
    by _ _ (here p) e = absurd cc
    by _ _ (later p us vs al) e = absurd cc

-- a reader that stopped before more is left than m can't have read a whole text that shares the token
not-both : (m k left : List Placed) (r : Read (List PlainProgram)) (tree : List PlainProgram) → left_of r ≡ left → suc (length m) ≤ length left → Both m k r (Ok (tree, [])) → ⊥
not-both m k left (Ok x) tree e more (inl same) = no-end m k x.1 same.1
not-both m k left (Err l) tree e more (inl same) = same
not-both m k left r tree e more (inr past) = let h : length (left_of r) ≡ length left = ap length e in let p = past.0 in absurd (omega (arith, h, p, more))

-- the tokens before what is left begin a text, and no text begins with one more
beyond-law : (tokens a b : List Token) (left : List Placed) → tokens ≡ a ++ b → left_of (source_at (tokens_numbered 0 tokens)) ≡ left → left ≡ tokens_numbered (0 + length a) b
    → (t : Token) (rest : List Token) → b ≡ t ∷ rest → Begins (a ++ t ∷ []) → ⊥
beyond-law tokens a b left cut stop after t rest is begins =
    let x = sharing 0 a t rest begins.0 in
    let whole : tokens ≡ a ++ (t ∷ rest) = cut ∙ ap (λ (l : List Token). a ++ l) is in
    let read : source_at (tokens_numbered 0 ((a ++ (t ∷ [])) ++ begins.0)) ≡ Ok (begins.1.0, []) = source-complete begins.1.1 refl in
    let same : Both x.m x.k (source_at (tokens_numbered 0 tokens)) (Ok (begins.1.0, [])) =
    subst (λ (r : Read (List PlainProgram)). Both x.m x.k (source_at (tokens_numbered 0 tokens)) r) read
    (subst (λ (ts : List Token). Both x.m x.k (source_at (tokens_numbered 0 ts)) (source_at (tokens_numbered 0 ((a ++ (t ∷ [])) ++ begins.0)))) (sym whole)
    (source-local.same x.m x.k (tokens_numbered 0 (a ++ (t ∷ rest))) (tokens_numbered 0 ((a ++ (t ∷ [])) ++ begins.0)) x.alike)) in
    let l1 : length left ≡ length b = ap length after ∙ length-numbered (0 + length a) b in
    let l2 : length b ≡ length (t ∷ rest) = ap length is in
    let l3 = x.size in
    not-both x.m x.k left (source_at (tokens_numbered 0 tokens)) begins.1.0 stop (omega (arith, l1, l2, l3)) same

misfit-cut : (tokens : List Token) (front left : List Placed) (c : Cut 0 tokens front left) → left_of (source_at (tokens_numbered 0 tokens)) ≡ left → Begins c.a
    → (k : ℕ) × (IsMisfit tokens k × (length tokens ≡ k + length left))
misfit-cut tokens front left c stop begins =
    let l1 : length tokens ≡ length (c.a ++ c.b) = ap length c.cut in
    let l2 : length left ≡ length c.b = ap length c.after ∙ length-numbered (0 + length c.a) c.b in
    let l3 = length-append c.a c.b in (
      length c.a,
      (
        record {
          front = c.a;
          back = c.b;
          cut = c.cut;
          place = refl;
          begins = begins;
          beyond = beyond-law tokens c.a c.b left c.cut stop c.after;
        },
        omega (arith, l1, l2, l3),
      ),
    )

misfit-by : (tokens : List Token) (r : Read (List PlainProgram)) → source_at (tokens_numbered 0 tokens) ≡ r → Tells SpellsSource (tokens_numbered 0 tokens) r → (k : ℕ) × (IsMisfit tokens k × (length tokens ≡ k + length (left_of r)))
misfit-by tokens (Ok x) read t =
    let c = cut-at 0 tokens t.fronts.front x.1 (t.fronts.whole ∙ t.fronts.each x.1) in
    misfit-cut tokens t.fronts.front x.1 c (ap left_of read)
    ([], (x.0, subst (λ (ts : List Placed). SpellsSource ts x.0 []) (t.fronts.each [] ∙ c.before [] ∙ onto-numbered 0 (0 + length c.a) c.a [] refl) (t.spells [])))
misfit-by tokens (Err left) read v =
    let c = cut-at 0 tokens v.fronts.front left (v.fronts.whole ∙ v.fronts.each left) in
    let e = v.ends (0 + length c.a) [] in
    misfit-cut tokens v.fronts.front left c (ap left_of read) (
      v.fin,
      (
        e.0,
        subst (λ (ts : List Placed). SpellsSource ts e.0 [])
            (v.fronts.each (onto (0 + length c.a) v.fin []) ∙ c.before (onto (0 + length c.a) v.fin []) ∙ onto-numbered 0 (0 + length c.a) c.a v.fin refl) e.1,
      ),
    )

misfit-place : (tokens : List Token) → (k : ℕ) × (IsMisfit tokens k × (length tokens ≡ k + length (left_of (source_at (tokens_numbered 0 tokens)))))
misfit-place tokens = misfit-by tokens (source_at (tokens_numbered 0 tokens)) refl (source-tells (tokens_numbered 0 tokens))

-- every list of tokens has a place at which it stops to begin a text
pub misfit : (tokens : List Token) → (k : ℕ) × IsMisfit tokens k
misfit tokens = let x = misfit-place tokens in (x.0, x.1.0)

-- the token that stands first in what a reader of sources left doesn't fit
pub record StopsAtMisfit (tokens : List Token) (left : List Placed) : Type 0 where
  pub within : length left ≤ length tokens
  pub misfit : IsMisfit tokens (length tokens - length left)

pub misfit-left : (tokens : List Token) (left : List Placed) → left_of (source_at (tokens_numbered 0 tokens)) ≡ left → StopsAtMisfit tokens left
misfit-left tokens left stop =
    let x = misfit-place tokens in
    let place : length tokens ≡ x.0 + length left = subst (λ (ls : List Placed). length tokens ≡ x.0 + length ls) stop x.1.1 in
    let same : x.0 ≡ length tokens - length left = omega (arith, place) in
    record { within = omega (arith, place); misfit = subst (IsMisfit tokens) same x.1.0 }

-- what begins a text is all that stands before: a front of what begins one begins one
shorter-begins : (a b : List Token) → Begins (a ++ b) → Begins a
shorter-begins a b s = (b ++ s.0, (s.1.0, subst (λ (ts : List Token). Spell ts s.1.0) (append_assoc a b s.0) s.1.1))

-- of two cuts of a list, the shorter front with one token more is a front of the longer one
record Seam (a b c : List Token) : Type 0 where
  pub t : Token
  pub r : List Token
  pub e : List Token
  pub back : b ≡ t ∷ r
  pub long : c ≡ (a ++ (t ∷ [])) ++ e

seam : (a b c d : List Token) → a ++ b ≡ c ++ d → length a < length c → Seam a b c
seam [] b [] d e less = absurd (omega (arith, less))
seam [] b (t ∷ c) d e less = record { t = t; r = c ++ d; e = c; back = e; long = refl }
seam (s ∷ a) b [] d e less = absurd (omega (arith, less))
seam (s ∷ a) b (t ∷ c) d e less =
    let x = seam a b c d (cc) (omega (arith, less)) in
    let same : s ≡ t = cc in
    record { t = x.t; r = x.r; e = x.e; back = x.back; long = ap (λ (l : List Token). t ∷ l) x.long ∙ ap (λ (u : Token). u ∷ ((a ++ (x.t ∷ [])) ++ x.e)) (sym same) }

none-before : (tokens : List Token) (j k : ℕ) → IsMisfit tokens j → IsMisfit tokens k → j < k → ⊥
none-before tokens j k a b less =
    let pa = a.place in
    let pb = b.place in
    let x = seam a.front a.back b.front b.back (sym a.cut ∙ b.cut) (omega (arith, less, pa, pb)) in
    a.beyond x.t x.r x.back (shorter-begins (a.front ++ (x.t ∷ [])) x.e (subst Begins x.long b.begins))

-- there is one place of the first token that doesn't fit
pub misfit-unique : (tokens : List Token) (j k : ℕ) → IsMisfit tokens j → IsMisfit tokens k → j ≡ k
misfit-unique tokens j k a b = first-unique (IsMisfit tokens) j k a b (λ i less c. none-before tokens i j c a less) (λ i less c. none-before tokens i k c b less)
