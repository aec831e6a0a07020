-- Writing tokens one after another.
use Rattle.std.proofs.Common.{arith, ◌+◌, ◌≡◌, ◌<◌, ℕ, suc, List, [], ◌∷◌, ◌++◌, length, take, refl, sym, ap, ◌∙◌, append_assoc, append-nil}
use Rattle.htl_text.proofs.Words.{append_known, take-suc, Spelling, each, after_commas, in_brackets, Token, get_or, Option, Some, map}
use Rattle.htl_text.specs.PrintedBytes.{Adds, Writes, printed_bytes, token_bytes}
use Rattle.htl_text.specs.declared.token.Token.TheVariants as token
use Rattle.htl_text.specs.declared.token.Sign.TheVariants as sign

pub printed_bytes-cons : (t : Token) (more : List Token) → printed_bytes (t ∷ more) ≡ token_bytes t ++ printed_bytes more
unfolding printed_bytes
printed_bytes-cons t more = refl

pub printed_bytes-nil : printed_bytes [] ≡ []
unfolding printed_bytes
printed_bytes-nil = refl

-- the first i items, and the next one
take-next : {X : Type 0} (items : List X) (i : ℕ) (x : X) → i < length items → x ≡ get_or items i x → take (i + 1) items ≡ take i items ++ x ∷ []
take-next {X} items i x below is = grind (arith, take-suc)

each-push : {X : Type 0} (item : Spelling X) (xs : List X) (x : X) (more : List Token) → each item (xs ++ x ∷ []) more ≡ each item xs (item x more)
each-push item [] x more = refl
each-push {X} item (y ∷ xs) x more = ap (item y) (each-push item xs x more)

commas-push : {X : Type 0} (item : Spelling X) (xs : List X) (x : X) (more : List Token)
    → after_commas item (xs ++ x ∷ []) more ≡ after_commas item xs (token.Sign sign.Comma ∷ item x more)
commas-push item [] x more = refl
commas-push {X} item (y ∷ xs) x more = ap (λ (ts : List Token). token.Sign sign.Comma ∷ item y ts) (commas-push item xs x more)

-- a token was written
pub Adds-token : (old new : Option (List ℕ)) (t : Token) → Writes (token_bytes t) old new → Adds (λ more. t ∷ more) old new
Adds-token old new t so more all e = ap (append_known old) (printed_bytes-cons t more) ∙ so (printed_bytes more) all e

module _ {X : Type 0} (items : List X) (i : ℕ) (x : X) (below : i < length items) (is : x ≡ get_or items i x) (first old new : Option (List ℕ)) where
  pub Adds-each : (item : Spelling X) → Adds (each item (take i items)) first old → Adds (item x) old new → Adds (each item (take (i + 1) items)) first new
  Adds-each item so then more all e =
      ap (λ (ts : List Token). append_known first (printed_bytes ts))
      (ap (λ (xs : List X). each item xs more) (take-next items i x below is) ∙ each-push item (take i items) x more)
      ∙ so (item x more) all (then more all e)

  pub Adds-comma : (item : Spelling X) (mid : Option (List ℕ)) → Adds (after_commas item (take i items)) first old → Adds (λ more. token.Sign sign.Comma ∷ more) old mid → Adds (item x) mid new
      → Adds (after_commas item (take (i + 1) items)) first new
  Adds-comma item mid so comma then more all e =
      ap (λ (ts : List Token). append_known first (printed_bytes ts))
      (ap (λ (xs : List X). after_commas item xs more) (take-next items i x below is) ∙ commas-push item (take i items) x more)
      ∙ so (token.Sign sign.Comma ∷ item x more) all (comma (item x more) all (then more all e))

pub Adds-tokens : (tokens : List Token) (i : ℕ) (t : Token) → i < length tokens → t ≡ get_or tokens i t → (first old new : Option (List ℕ))
    → Adds (λ more. take i tokens ++ more) first old → Writes (token_bytes t) old new → Adds (λ more. take (i + 1) tokens ++ more) first new
Adds-tokens tokens i t below is first old new so one more all e =
    ap (λ (ts : List Token). append_known first (printed_bytes ts))
    (ap (λ (ts : List Token). ts ++ more) (take-next tokens i t below is) ∙ append_assoc (take i tokens) (t ∷ []) more)
    ∙ so (t ∷ more) all (Adds-token old new t one more all e)

-- what stands between brackets was written, and the brackets
module _ {X : Type 0} (item : Spelling X) (items : List X) (old mid end new : Option (List ℕ)) (opened : Adds (λ more. token.Sign sign.OpenParen ∷ more) old mid)
    (closed : Adds (λ more. token.Sign sign.CloseParen ∷ more) end new) where
  pub Adds-no_items : items ≡ [] → end ≡ mid → Adds (in_brackets item items) old new
  Adds-no_items none same more all e =
      ap (λ (xs : List X). append_known old (printed_bytes (in_brackets item xs more))) none
      ∙ opened _ all (ap (λ (written : Option (List ℕ)). append_known written (printed_bytes (token.Sign sign.CloseParen ∷ more))) (sym same) ∙ closed more all e)

  pub Adds-items : (x : X) (xs : List X) → items ≡ x ∷ xs → (first : Option (List ℕ)) → Adds (item x) mid first → Adds (after_commas item xs) first end → Adds (in_brackets item items) old new
  Adds-items x xs some first one others more all e =
      ap (λ (ys : List X). append_known old (printed_bytes (in_brackets item ys more))) some ∙ opened _ all (one _ all (others _ all (closed more all e)))

each-map : {X Y : Type 0} (view : X → Y) (item : Spelling Y) (xs : List X) (more : List Token) → each (λ x. item (view x)) xs more ≡ each item (map view xs) more
each-map view item [] more = refl
each-map view item (x ∷ xs) more = ap (item (view x)) (each-map view item xs more)

commas-map : {X Y : Type 0} (view : X → Y) (item : Spelling Y) (xs : List X) (more : List Token)
    → after_commas (λ x. item (view x)) xs more ≡ after_commas item (map view xs) more
commas-map view item [] more = refl
commas-map view item (x ∷ xs) more = ap (λ (ts : List Token). token.Sign sign.Comma ∷ item (view x) ts) (commas-map view item xs more)

brackets-map : {X Y : Type 0} (view : X → Y) (item : Spelling Y) (xs : List X) (more : List Token)
    → in_brackets (λ x. item (view x)) xs more ≡ in_brackets item (map view xs) more
brackets-map view item [] more = refl
brackets-map view item (x ∷ xs) more = grind (arith, commas-map)

-- items were written, each by its plain image
pub Adds-each_of : {X Y : Type 0} (view : X → Y) (item : Spelling Y) (xs : List X) (old new : Option (List ℕ)) → Adds (each (λ x. item (view x)) xs) old new
    → Adds (each item (map view xs)) old new
Adds-each_of view item xs old new so more all e = ap (λ (ts : List Token). append_known old (printed_bytes ts)) (sym (each-map view item xs more)) ∙ so more all e

pub Adds-brackets_of : {X Y : Type 0} (view : X → Y) (item : Spelling Y) (xs : List X) (old new : Option (List ℕ)) → Adds (in_brackets (λ x. item (view x)) xs) old new
    → Adds (in_brackets item (map view xs)) old new
Adds-brackets_of view item xs old new so more all e = ap (λ (ts : List Token). append_known old (printed_bytes ts)) (sym (brackets-map view item xs more)) ∙ so more all e

-- all that was written since the start
pub Adds-whole : (tokens : List Token → List Token) (old new : Option (List ℕ)) (bytes : List ℕ) → old ≡ Some [] → Adds tokens old new → new ≡ Some bytes
    → bytes ≡ printed_bytes (tokens [])
Adds-whole tokens old new bytes start so e =
    let last = ap (λ (written : Option (List ℕ)). append_known written (printed_bytes [])) e ∙ ap (λ (bs : List ℕ). Some (bytes ++ bs)) printed_bytes-nil
    ∙ ap (λ (bs : List ℕ). Some bs) (append-nil bytes) in
    let both : Some (printed_bytes (tokens [])) ≡ Some bytes = ap (λ (written : Option (List ℕ)). append_known written (printed_bytes (tokens []))) (sym start)
    ∙ so [] bytes last in
    cc
