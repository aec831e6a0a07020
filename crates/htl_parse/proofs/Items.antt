-- Steps of reading a list in brackets.
use Rattle.std.proofs.Common.{arith, ◌≡◌, ◌<◌, ℕ, zero, suc, List, [], ◌∷◌, ◌++◌, length, None, Some, Ok, Err, refl, sym, subst, ap, ◌∙◌, append_assoc, append-nil}
use Rattle.htl_parse.proofs.{Words.Placed, Words.Put, Words.param_at, Words.out_at, Words.end_at, Words.more_at, Words.items_at, Words.SpellsParam, Words.SpellsOut, Words.SpellsEnd, Words.Passes, Fronts.Holds, Fronts.Less, Fronts.less-of}
use Rattle.htl_parse.specs.Reading.{Read, Reader, ◌>>=◌}
use Rattle.htl_parse.proofs.{Statements.param-shorter, Statements.out-shorter, Statements.end-shorter, ViableParts.param-tells, ViableParts.out-tells, ViableParts.end-tells, Listing.more-is}
use Rattle.htl_text.specs.declared.token.Token.TheVariants as token
use Rattle.htl_text.specs.declared.token.Sign.TheVariants as sign

abbrev pub with_front : {X : Type 0} → List X → Read (List X) → Read (List X)
with_front front r = r >>= λ xs. Ok (front ++ xs.0, xs.1)

abbrev pub rest_at : {X : Type 0} → Reader X → Reader (List X)
rest_at item ts = more_at item (length ts) ts

-- these items were read, and others follow in what is left
pub record IsListing {X : Type 0} (item : Reader X) (old left : List Placed) (found : List X) : Type 0 where
  pub reads : items_at item old ≡ with_front found (rest_at item left)

pub front-append : {X : Type 0} (found : List X) (x : X) (r : Read (List X)) → with_front found (r >>= λ xs. Ok (x ∷ xs.0, xs.1)) ≡ with_front (found ++ x ∷ []) r
front-append {X} found x (Ok xs) = ap (λ (ys : List X). Ok (ys, xs.1)) (sym (append_assoc found (x ∷ []) xs.0))
front-append {X} found x (Err left) = refl

module _ {X : Type 0} (item : Reader X) (less : Less item) (old left : List Placed) (found : List X) (so : IsListing item old left found) where
  at_comma : (mid : List Placed) (k : ℕ) → Passes (token.Sign sign.Comma) left mid (Some k)
      → items_at item old ≡ with_front found (item mid >>= λ x. rest_at item x.1 >>= λ xs. Ok (x.0 ∷ xs.0, xs.1))
  at_comma mid k passes = so.reads ∙ ap (λ (ts : List Placed). with_front found (rest_at item ts)) passes ∙ ap (with_front found) (more-is item less k mid)

  pub items-more : (mid new : List Placed) (k : ℕ) (x : X) → Passes (token.Sign sign.Comma) left mid (Some k) → item mid ≡ Ok (x, new) → IsListing item old new (found ++ x ∷ [])
  items-more mid new k x passes e = record {
    reads =
        at_comma mid k passes ∙ ap (λ (r : Read X). with_front found (r >>= λ x. rest_at item x.1 >>= λ xs. Ok (x.0 ∷ xs.0, xs.1))) e
        ∙ front-append found x (rest_at item new);
  }

  pub items-end : (new : List Placed) → Passes (token.Sign sign.Comma) left new None → items_at item old ≡ Ok (found, new)
  items-end new passes =
      so.reads ∙ ap (with_front found) (none_left (length left) left (λ k rest e. passes.1 k rest e))
      ∙ ap (λ (ys : List X). Ok (ys, left)) (append-nil found) ∙ ap (λ (us : List Placed). Ok (found, us)) (sym passes.0)
    where
      none_left : (n : ℕ) (ts : List Placed) → ((k : ℕ) (rest : List Placed) → ts ≡ Put k (token.Sign sign.Comma) ∷ rest → ⊥) → more_at item n ts ≡ Ok ([], ts)
      none_left n (Put k (token.Sign sign.Comma) ∷ ts) never = absurd (never k ts refl)
      none_left zero ts never = refl
      none_left (suc n) ts never = refl

-- what was read is no longer left
pub less-read : {X : Type 0} (item : Reader X) → Less item → (old new : List Placed) (x : X) → item old ≡ Ok (x, new) → length new < length old
less-read {X} item less old new x e = subst (Holds (λ (x : X × List Placed). length x.1 < length old)) e (less old)

pub param-less : Less param_at
param-less = less-of SpellsParam param_at param-shorter param-tells

pub out-less : Less out_at
out-less = less-of SpellsOut out_at out-shorter out-tells

pub end-less : Less end_at
end-less = less-of SpellsEnd end_at end-shorter end-tells

-- a comma was passed
pub comma-less : (old mid new : List Placed) (k : ℕ) → Passes (token.Sign sign.Comma) old mid (Some k) → length new < length mid → length new < length old
comma-less old mid new k passes less = let longer : length old ≡ length (Put k (token.Sign sign.Comma) ∷ mid) = ap length passes in omega (arith, less, longer)
