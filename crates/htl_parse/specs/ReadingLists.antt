-- Reading lists of items.
use Rattle.std.specs.Prelude.{ℕ, Bool, true, false, Ok, List, [], ◌∷◌, length}
use Rattle.std.proofs.Common.{zero, suc}
use Rattle.htl_text.specs.Placed.{Placed, Put}
use Rattle.htl_parse.specs.Reading.{Read, Reader, ◌>>=◌, after_sign}
use Rattle.htl_text.specs.declared.token.Token.TheVariants as token
use Rattle.htl_text.specs.declared.token.Sign.TheVariants as sign

-- an item has been read; further ones behind commas
abbrev pub more_at : {X : Type 0} → Reader X → ℕ → Reader (List X)
more_at item (suc n) (Put k (token.Sign sign.Comma) ∷ ts) = item ts >>= λ x. more_at item n x.1 >>= λ xs. Ok (x.0 ∷ xs.0, xs.1)
more_at item n ts = Ok ([], ts)

abbrev pub items_at : {X : Type 0} → Reader X → Reader (List X)
items_at item ts = item ts >>= λ x. more_at item (length x.1) x.1 >>= λ xs. Ok (x.0 ∷ xs.0, xs.1)

-- the closing bracket follows
abbrev pub closed_at : {X : Type 0} → Read (List X) → Read (List X)
closed_at r = r >>= λ xs. after_sign sign.CloseParen xs.1 >>= λ us. Ok (xs.0, us)

-- behind the opening bracket
abbrev pub closing_at : {X : Type 0} → Reader X → Reader (List X)
closing_at item (Put k (token.Sign sign.CloseParen) ∷ ts) = Ok ([], ts)
closing_at item ts = closed_at (items_at item ts)

-- "(" [ item { "," item } ] ")"
abbrev pub list_at : {X : Type 0} → Reader X → Reader (List X)
list_at item ts = after_sign sign.OpenParen ts >>= λ us. closing_at item us

-- one more item, where one begins here
abbrev pub again_at : {X : Type 0} → Reader (List X) → Reader X → List Placed → Bool → Read (List X)
again_at more item ts true = item ts >>= λ x. more x.1 >>= λ xs. Ok (x.0 ∷ xs.0, xs.1)
again_at more item ts false = Ok ([], ts)

-- at most n items, as long as one begins
abbrev pub each_at : {X : Type 0} → (List Placed → Bool) → Reader X → ℕ → Reader (List X)
each_at begins item zero ts = Ok ([], ts)
each_at begins item (suc n) ts = again_at (each_at begins item n) item ts (begins ts)

-- { item }
abbrev pub repeated_at : {X : Type 0} → (List Placed → Bool) → Reader X → Reader (List X)
repeated_at begins item ts = each_at begins item (length ts) ts
