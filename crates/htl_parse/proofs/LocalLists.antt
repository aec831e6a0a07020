-- Reading lists and repeated items looks no further than to the token at which it stops.
use Rattle.std.proofs.Common.{arith, ◌≡◌, ℕ, zero, suc, Bool, true, false, List, [], ◌∷◌, length, Ok, refl, ap, inl, inr}
use Rattle.htl_parse.proofs.{Words.Placed, Words.Put, Words.more_at, Words.items_at, Words.closed_at, Words.closing_at, Words.list_at, Words.again_at, Words.each_at, Words.repeated_at, Fronts.Less, Listing.more-same, Repeating.each-same}
use Rattle.htl_text.specs.declared.token.Token.TheVariants as token
use Rattle.htl_text.specs.declared.token.Sign.TheVariants as sign
use Rattle.htl_parse.specs.Reading.{Reader}
use Rattle.htl_parse.proofs.Locality.{Local, Begun, local-ok, local-by, local-bound, local-then, local-sign}

module _ {X : Type 0} (item : Reader X) (l : Local item) (less : Less item) where
  first-more : (n : ℕ) → Local (more_at item n) → (p : Placed) → Begun p (λ (us : List Placed). more_at item (suc n) (p ∷ us))
  first-more n more (Put j (token.Sign sign.Comma)) = inl (local-then item _ l (λ x. local-then (more_at item n) _ more (λ xs. local-ok (x ∷ xs))))
  first-more n more p = inr (λ us. Ok ([], us), local-ok [], λ us. refl)

  more-local : (n : ℕ) → Local (more_at item n)
  more-local zero = local-ok []
  more-local (suc n) = local-by (more_at item (suc n)) (omega arith) (first-more n (more-local n))

  items-local : Local (items_at item)
  items-local =
      let rest : Local (λ (us : List Placed). more_at item (length us) us) =
      local-bound (more_at item) (λ us. more_at item (length us) us) (λ n us fits. more-same item less (length us) n us (omega arith) fits) more-local in
      local-then item _ l (λ x. local-then (λ us. more_at item (length us) us) _ rest (λ xs. local-ok (x ∷ xs)))

  closed-local : Local (λ (us : List Placed). closed_at (items_at item us))
  closed-local = local-then (items_at item) _ items-local (λ xs. local-sign sign.CloseParen _ (local-ok xs))

  closing-local : Local (closing_at item)
  closing-local = local-by (closing_at item) (closed-local.less []) each
    where
      each : (p : Placed) → Begun p (λ (us : List Placed). closing_at item (p ∷ us))
      each (Put j (token.Sign sign.CloseParen)) = inl (local-ok [])
      each p = inr (λ us. closed_at (items_at item us), closed-local, λ us. refl)

  pub list-local : Local (list_at item)
  list-local = local-sign sign.OpenParen _ closing-local

  again-local : (more : Reader (List X)) → Local more → (b : Bool) → Local (λ (us : List Placed). again_at more item us b)
  again-local more each true = local-then item _ l (λ x. local-then more _ each (λ xs. local-ok (x ∷ xs)))
  again-local more each false = local-ok []

  -- whether an item begins is told by the first token
  module _ (begins : List Placed → Bool) (nothing : begins [] ≡ false) (head : (p : Placed) (us vs : List Placed) → begins (p ∷ us) ≡ begins (p ∷ vs)) where
    each-local : (n : ℕ) → Local (each_at begins item n)
    each-local zero = local-ok []
    each-local (suc n) =
        let again : (b : Bool) → Local (λ (us : List Placed). again_at (each_at begins item n) item us b) = again-local (each_at begins item n)
        (each-local n) in
        local-by (each_at begins item (suc n)) ((again (begins [])).less [])
        (λ p. inr (
          λ us. again_at (each_at begins item n) item us (begins (p ∷ [])),
          again (begins (p ∷ [])),
          λ us. ap
              (again_at (each_at begins item n) item (p ∷ us)) (head p [] us),
        ))

    pub repeated-local : Local (repeated_at begins item)
    repeated-local = local-bound (each_at begins item) (repeated_at begins item)
        (λ n us fits. each-same begins item less nothing (length us) n us (omega arith) fits) each-local
