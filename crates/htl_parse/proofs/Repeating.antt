-- Repeated items: what is spelled so is read, and leaves less.
use Rattle.std.proofs.Common.{arith, ◌≡◌, ◌≤◌, ◌<◌, ℕ, zero, suc, Bool, true, false, List, [], ◌∷◌, length, Ok, refl, sym, ap, ◌∙◌}
use Rattle.htl_parse.proofs.{Words.Placed, Words.SpellsEach, Words.no_other, Words.another, Words.again_at, Words.each_at, Words.repeated_at, Fixed.bind-same, Fronts.Less}
use Rattle.htl_parse.specs.Reading.{Read, Reader, ◌>>=◌}

module _ {X : Type 0} (Item : List Placed → X → List Placed → Type 0) (begins : List Placed → Bool) (item : Reader X) where
  -- completeness, where an item is told by its first token
  pub record IsPart : Type 0 where
    pub shorter : (ts : List Placed) (x : X) (us : List Placed) → Item ts x us → length us < length ts
    pub complete : (ts : List Placed) (x : X) (us : List Placed) → Item ts x us → item ts ≡ Ok (x, us)
    pub starts : (ts : List Placed) (x : X) (us : List Placed) → Item ts x us → begins ts ≡ true

  module _ (part : IsPart) where
    each-complete : {ts : List Placed} {xs : List X} {rest : List Placed} → SpellsEach Item ts xs rest → begins rest ≡ false → (n : ℕ) → length ts ≤ n → each_at begins item n ts ≡ Ok (xs, rest)
    each-complete no_other stop zero fits = refl
    each-complete (no_other {rest}) stop (suc n) fits = ap (again_at (each_at begins item n) item rest) stop
    each-complete (another {ts} {us} {rest} {x} {xs} s more) stop zero fits = absurd (omega (arith, fits, part.shorter ts x us s))
    each-complete (another {ts} {us} {rest} {x} {xs} s more) stop (suc n) fits =
        ap (again_at (each_at begins item n) item ts) (part.starts ts x us s)
        ∙ ap (λ (r : Read X). r >>= λ x. each_at begins item n x.1 >>= λ xs. Ok (x.0 ∷ xs.0, xs.1)) (part.complete ts x us s)
        ∙ ap (λ (r : Read (List X)). r >>= λ xs. Ok (x ∷ xs.0, xs.1)) (each-complete more stop n (omega (arith, fits, part.shorter ts x us s)))

    pub repeated-complete : {ts : List Placed} {xs : List X} {rest : List Placed} → SpellsEach Item ts xs rest → begins rest ≡ false → repeated_at begins item ts ≡ Ok (xs, rest)
    repeated-complete {ts} {xs} {rest} s stop = each-complete s stop (length ts) (omega arith)

  -- what can stand at the front: an item, or what follows
  pub each-front : (p : List Placed → Bool) → ((ts : List Placed) (x : X) (us : List Placed) → Item ts x us → p ts ≡ false)
      → {ts : List Placed} {xs : List X} {rest : List Placed} → SpellsEach Item ts xs rest → p rest ≡ false → p ts ≡ false
  each-front p front no_other stop = stop
  each-front p front (another {ts} {us} {rest} {x} {xs} s more) stop = front ts x us s

  pub each-shorter : ((ts : List Placed) (x : X) (us : List Placed) → Item ts x us → length us < length ts)
      → {ts : List Placed} {xs : List X} {rest : List Placed} → SpellsEach Item ts xs rest → length rest ≤ length ts
  each-shorter shorter (no_other {rest}) = omega arith
  each-shorter shorter (another {ts} {us} {rest} {x} {xs} s more) = omega (arith, shorter ts x us s, each-shorter shorter more)

-- reading needs no bound
module _ {X : Type 0} (begins : List Placed → Bool) (item : Reader X) (less : Less item) (nothing : begins [] ≡ false) where
  again-same : (more also : Reader (List X)) (ts : List Placed) → ((us : List Placed) → length us < length ts → more us ≡ also us) → (b : Bool)
      → again_at more item ts b ≡ again_at also item ts b
  again-same more also ts same true = bind-same _ _ _ (item ts) (item ts) refl (less ts) (λ x h. ap (λ (r : Read (List X)). r >>= λ xs. Ok (x.0 ∷ xs.0, xs.1)) (same x.1 h))
  again-same more also ts same false = refl

  -- with no token nothing begins
  none-here : (more : Reader (List X)) (ts : List Placed) → length ts ≤ 0 → Ok ([], ts) ≡ again_at more item ts (begins ts)
  none-here more [] fits = ap (again_at more item []) (sym nothing)
  none-here more (t ∷ ts) fits = absurd (omega (arith, fits))

  pub each-same : (n m : ℕ) (ts : List Placed) → length ts ≤ n → length ts ≤ m → each_at begins item n ts ≡ each_at begins item m ts
  each-same (suc n) (suc m) ts a b =
      again-same (each_at begins item n) (each_at begins item m) ts (λ us h. each-same n m us (omega (arith, a, h)) (omega (arith, b, h))) (begins ts)
  each-same zero zero ts a b = refl
  each-same zero (suc m) ts a b = none-here (each_at begins item m) ts a
  each-same (suc n) zero ts a b = sym (none-here (each_at begins item n) ts b)

  -- one more item, or none
  pub repeated-is : (ts : List Placed) → repeated_at begins item ts ≡ again_at (repeated_at begins item) item ts (begins ts)
  repeated-is ts = by (length ts) (omega arith)
    where
      by : (n : ℕ) → length ts ≤ n → each_at begins item n ts ≡ again_at (repeated_at begins item) item ts (begins ts)
      by zero fits = none-here (repeated_at begins item) ts fits
      by (suc n) fits = again-same (each_at begins item n) (repeated_at begins item) ts (λ us h. each-same n (length us) us (omega (arith, fits, h)) (omega arith)) (begins ts)
