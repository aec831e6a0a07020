-- Lists in brackets: what is spelled so is read, and leaves less.
use Rattle.std.proofs.Common.{arith, ◌≡◌, ◌≤◌, ◌<◌, ℕ, zero, suc, List, [], ◌∷◌, length, Ok, refl, ap, ◌∙◌}
use Rattle.htl_parse.proofs.{Words.Placed, Words.Put, Words.SpellsMore, Words.no_more, Words.comma, Words.SpellsList, Words.empty, Words.items, Words.more_at, Words.items_at, Words.closed_at, Words.closing_at, Words.list_at, Fronts.Less}
use Rattle.htl_parse.specs.Reading.{Read, Reader, ◌>>=◌}
use Rattle.htl_parse.proofs.Fixed.{bind-same}
use Rattle.htl_text.specs.declared.token.Token.TheVariants as token
use Rattle.htl_text.specs.declared.token.Sign.TheVariants as sign

-- a comma or a closing bracket stands next
abbrev pub IsStop : List Placed → Type 0
IsStop (Put k (token.Sign sign.Comma) ∷ us) = Unit {0}
IsStop (Put k (token.Sign sign.CloseParen) ∷ us) = Unit {0}
IsStop us = ⊥

abbrev pub IsClosed : List Placed → Type 0
IsClosed (Put k (token.Sign sign.CloseParen) ∷ us) = Unit {0}
IsClosed us = ⊥

module _ {X : Type 0} (Item : List Placed → X → List Placed → Type 0) (item : Reader X) where
  -- a list has at least two tokens
  more-shorter : ((ts : List Placed) (x : X) (us : List Placed) → Item ts x us → length us < length ts)
      → {ts : List Placed} {xs : List X} {rest : List Placed} → SpellsMore Item ts xs rest → length rest ≤ length ts
  more-shorter shorter no_more = omega arith
  more-shorter shorter (comma {ts} {us} {rest} {x} {xs} {k} s more) = omega (arith, shorter ts x us s, more-shorter shorter more)

  pub list-shorter : ((ts : List Placed) (x : X) (us : List Placed) → Item ts x us → length us < length ts)
      → {ts : List Placed} {xs : List X} {rest : List Placed} → SpellsList Item ts xs rest → length rest < length ts
  list-shorter shorter empty = omega arith
  list-shorter shorter (items {ts} {us} {rest} {x} {xs} {k} {m} s more) = omega (arith, shorter ts x us s, more-shorter shorter more)

  -- completeness, where items are read up to a comma or a closing bracket
  more-end : (n : ℕ) (rest : List Placed) → IsClosed rest → more_at item n rest ≡ Ok ([], rest)
  more-end zero (Put k (token.Sign sign.CloseParen) ∷ us) closed = refl
  more-end (suc n) (Put k (token.Sign sign.CloseParen) ∷ us) closed = refl
  more-end n rest closed = absurd closed

  closed-stop : (us : List Placed) → IsClosed us → IsStop us
  closed-stop (Put k (token.Sign sign.CloseParen) ∷ us) closed = tt
  closed-stop us closed = absurd closed

  more-stop : {us : List Placed} {xs : List X} {rest : List Placed} → SpellsMore Item us xs rest → IsClosed rest → IsStop us
  more-stop {us} no_more closed = closed-stop us closed
  more-stop (comma s more) closed = tt

  module _ (shorter : (ts : List Placed) (x : X) (us : List Placed) → Item ts x us → length us < length ts)
      (complete : (ts : List Placed) (x : X) (us : List Placed) → Item ts x us → IsStop us → item ts ≡ Ok (x, us)) where
    more-complete : {ts : List Placed} {xs : List X} {rest : List Placed} → SpellsMore Item ts xs rest → IsClosed rest → (n : ℕ) → length ts ≤ n → more_at item n ts ≡ Ok (xs, rest)
    more-complete {ts} {xs} {rest} no_more closed n fits = more-end n rest closed
    more-complete (comma s more) closed zero fits = absurd (omega (arith, fits))
    more-complete (comma {ts} {us} {rest} {x} {xs} {k} s more) closed (suc n) fits =
        let less = shorter ts x us s in
        ap (λ (r : Read X). r >>= λ x. more_at item n x.1 >>= λ xs. Ok (x.0 ∷ xs.0, xs.1)) (complete ts x us s (more-stop more closed))
        ∙ ap (λ (r : Read (List X)). r >>= λ xs. Ok (x ∷ xs.0, xs.1)) (more-complete more closed n (omega (arith, fits, less)))

    -- an item doesn't begin with a closing bracket
    pub list-complete : ((k : ℕ) (us : List Placed) (x : X) (rest : List Placed) → Item (Put k (token.Sign sign.CloseParen) ∷ us) x rest → ⊥)
        → {ts : List Placed} {xs : List X} {rest : List Placed} → SpellsList Item ts xs rest → list_at item ts ≡ Ok (xs, rest)
    list-complete opens empty = refl
    list-complete opens (items {ts} {us} {rest} {x} {xs} {k} {m} s more) = behind ts opens s
      where
        whole : (ts : List Placed) → Item ts x us → closed_at (items_at item ts) ≡ Ok (x ∷ xs, rest)
        whole ts s =
            ap (λ (r : Read X). closed_at (r >>= λ x. more_at item (length x.1) x.1 >>= λ xs. Ok (x.0 ∷ xs.0, xs.1)))
            (complete ts x us s (more-stop more tt))
            ∙ ap (λ (r : Read (List X)). closed_at (r >>= λ xs. Ok (x ∷ xs.0, xs.1)))
            (more-complete more tt (length us) (omega arith))

        behind : (ts : List Placed) → ((k : ℕ) (us : List Placed) (x : X) (rest : List Placed) → Item (Put k (token.Sign sign.CloseParen) ∷ us) x rest → ⊥) → Item ts x us
            → closing_at item ts ≡ Ok (x ∷ xs, rest)
        behind (Put m (token.Sign sign.CloseParen) ∷ ts) opens s = absurd (opens m ts x us s)
        behind ts opens s = whole ts s

-- reading needs no bound
module _ {X : Type 0} (item : Reader X) (less : Less item) where
  pub more-same : (n m : ℕ) (ts : List Placed) → length ts ≤ n → length ts ≤ m → more_at item n ts ≡ more_at item m ts
  more-same (suc n) (suc m) (Put k (token.Sign sign.Comma) ∷ ts) a b =
      bind-same _ _ _ (item ts) (item ts) refl (less ts) (λ x h. ap (λ (r : Read (List X)). r >>= λ xs. Ok (x.0 ∷ xs.0, xs.1)) (more-same n m x.1 (omega (arith, a, h)) (omega (arith, b, h))))
  more-same zero (suc m) (Put k (token.Sign sign.Comma) ∷ ts) a b = absurd (omega (arith, a))
  more-same (suc n) zero (Put k (token.Sign sign.Comma) ∷ ts) a b = absurd (omega (arith, b))
  more-same n m ts a b = refl

  pub more-is : (k : ℕ) (ts : List Placed)
      → more_at item (length (Put k (token.Sign sign.Comma) ∷ ts)) (Put k (token.Sign sign.Comma) ∷ ts) ≡ (item ts >>= λ x. more_at item (length x.1) x.1 >>= λ xs. Ok (x.0 ∷ xs.0, xs.1))
  more-is k ts =
      bind-same _ _ _ (item ts) (item ts) refl (less ts) (λ x h. ap (λ (r : Read (List X)). r >>= λ xs. Ok (x.0 ∷ xs.0, xs.1)) (more-same (length ts) (length x.1) x.1 (omega (arith, h)) (omega arith)))
