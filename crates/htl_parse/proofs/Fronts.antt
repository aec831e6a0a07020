-- Fronts of lists of tokens, and how what was read is part of a whole.
use Rattle.std.proofs.Common.{arith, ◌≡◌, ℕ, ℤ, Bool, true, false, cond, List, [], ◌∷◌, ◌++◌, ◌+◌, ◌<◌, length, Result, Ok, Err, refl, sym, subst, ap, ◌∙◌, append_assoc}
use Rattle.std.specs.Prelude.{◌==◌}
use Rattle.htl_parse.proofs.{Words.Placed, Words.Put, Words.Token, Words.Sign, Words.Word, Words.sign_code, Words.word_code, Words.Id, Words.Num, Coding.sign_code-equal, Coding.word_code-equal}
use Rattle.htl_text.specs.declared.token.Token.TheVariants as token
use Rattle.htl_parse.specs.Reading.{Read, Reader, ◌>>=◌, after_sign, after_word, name_at, number_at}

-- these tokens, numbered from n on, and then rest
abbrev pub onto : ℕ → List Token → List Placed → List Placed
onto n [] rest = rest
onto n (t ∷ ts) rest = Put n t ∷ onto (n + 1) ts rest

-- ts is a front before us
pub record Fronts (f : List Placed → List Placed) (ts us : List Placed) : Type 0 where
  pub front : List Placed
  pub each : (other : List Placed) → f other ≡ front ++ other
  pub whole : ts ≡ f us

pub fronts-none : (ts : List Placed) → Fronts (λ (o : List Placed). o) ts ts
fronts-none ts = record { front = []; each = λ o. refl; whole = refl }

pub fronts-more : (f g : List Placed → List Placed) (ts us vs : List Placed) → Fronts f ts us → Fronts g us vs → Fronts (λ (o : List Placed). f (g o)) ts vs
fronts-more f g ts us vs a b = record {
  front = a.front ++ b.front;
  each = λ o. a.each (g o) ∙ ap (λ (l : List Placed). a.front ++ l) (b.each o) ∙ sym (append_assoc a.front b.front o);
  whole = a.whole ∙ ap f b.whole;
}

pub fronts-token : (p : Placed) (ts us : List Placed) → ts ≡ p ∷ us → Fronts (λ (o : List Placed). p ∷ o) ts us
fronts-token p ts us e = record { front = p ∷ []; each = λ o. refl; whole = e }

-- x is spelled at the front of ts, and the same with any tokens in the place of the rest
pub record Replaces {X : Type 0} (N : List Placed → X → List Placed → Type 0) (ts : List Placed) (x : X) (rest : List Placed) : Type 0 where
  pub f : List Placed → List Placed
  pub fronts : Fronts f ts rest
  pub spells : (other : List Placed) → N (f other) x other

-- the tokens before left begin something that is spelled
pub record Viable {X : Type 0} (N : List Placed → X → List Placed → Type 0) (ts left : List Placed) : Type 0 where
  pub f : List Placed → List Placed
  pub fronts : Fronts f ts left
  pub fin : List Token
  pub ends : (n : ℕ) (rest : List Placed) → (x : X) × N (f (onto n fin rest)) x rest

-- where something was read, this holds of it
abbrev pub Holds : {A : Type 0} → (A → Type 0) → Result A (List Placed) → Type 0
Holds P (Ok x) = P x
Holds P (Err left) = Unit {0}

abbrev pub Tells : {X : Type 0} → (List Placed → X → List Placed → Type 0) → List Placed → Read X → Type 0
Tells N ts (Ok x) = Replaces N ts x.0 x.1
Tells N ts (Err left) = Viable N ts left

-- what was read is spelled so
pub tells-sound : {X : Type 0} (N : List Placed → X → List Placed → Type 0) (ts : List Placed) (r : Read X) → Tells N ts r
    → Holds (λ (x : X × List Placed). N ts x.0 x.1) r
tells-sound N ts (Ok x) t = subst (λ (us : List Placed). N us x.0 x.1) (sym t.fronts.whole) (t.spells x.1)
tells-sound N ts (Err left) v = tt

-- less is left than there was, where something was read
abbrev pub Less : {X : Type 0} → Reader X → Type 0
Less {X} read = (ts : List Placed) → Holds (λ (x : X × List Placed). length x.1 < length ts) (read ts)

-- so it is where a spelling has a token
pub less-of : {X : Type 0} (N : List Placed → X → List Placed → Type 0) (read : Reader X)
    → ((ts : List Placed) (x : X) (us : List Placed) → N ts x us → length us < length ts)
    → ((ts : List Placed) → Tells N ts (read ts)) → Less read
less-of {X} N read shorter tells ts = by (read ts) (tells-sound N ts (read ts) (tells ts))
  where
    by : (r : Read X) → Holds (λ (x : X × List Placed). N ts x.0 x.1) r → Holds (λ (x : X × List Placed). length x.1 < length ts) r
    by (Ok x) s = shorter ts x.0 x.1 s
    by (Err left) s = tt

onto-append : (n : ℕ) (a b : List Token) (rest : List Placed) → onto n (a ++ b) rest ≡ onto n a (onto (n + length a) b rest)
onto-append n [] b rest = ap (λ (m : ℕ). onto m b rest) (omega arith)
onto-append n (t ∷ a) b rest =
    let e : n + 1 + length a ≡ n + length (t ∷ a) = omega arith in
    ap (λ (l : List Placed). Put n t ∷ l) (onto-append (n + 1) a b rest ∙ ap (λ (m : ℕ). onto (n + 1) a (onto m b rest)) e)

-- the rest of what N wants, once its part A is spelled
abbrev pub Closes : {X Y : Type 0} → (List Placed → X → List Placed → Type 0) → (List Placed → Y → List Placed → Type 0) → (List Placed → List Placed) → List Token → Type 0
Closes {X} {Y} A N f fin = (other : List Placed) (a : X) (n : ℕ) (rest : List Placed) → A other a (onto n fin rest) → (y : Y) × N (f other) y rest

pub viable-in : {X Y : Type 0} (A : List Placed → X → List Placed → Type 0) (N : List Placed → Y → List Placed → Type 0) (f : List Placed → List Placed) (ts us left : List Placed)
    → Fronts f ts us → (fin : List Token) → Closes A N f fin → Viable A us left → Viable N ts left
viable-in {X} {Y} A N f ts us left at fin closes v = record {
  f = λ o. f (v.f o);
  fronts = fronts-more f v.f ts us left at v.fronts;
  fin = v.fin ++ fin;
  ends = λ n rest.
      let a : (x : X) × A (v.f (onto n v.fin (onto (n + length v.fin) fin rest))) x (onto (n + length v.fin) fin rest) = v.ends n (onto (n + length v.fin) fin rest) in
      subst (λ (l : List Placed). (y : Y) × N (f (v.f l)) y rest) (sym (onto-append n v.fin fin rest))
      (closes (v.f (onto n v.fin (onto (n + length v.fin) fin rest))) a.0 (n + length v.fin) rest a.1);
}

-- one part after another
pub part : {X Y : Type 0} (A : List Placed → X → List Placed → Type 0) (N : List Placed → Y → List Placed → Type 0) (f : List Placed → List Placed) (ts us : List Placed)
    → Fronts f ts us → (fin : List Token) → Closes A N f fin
    → (next : X × List Placed → Read Y) (r : Read X) → Tells A us r
    → ((a : X) (vs : List Placed) (g : List Placed → List Placed) → Fronts (λ (o : List Placed). f (g o)) ts vs → ((other : List Placed) → A (g other) a other) → Tells N ts (next (a, vs)))
    → Tells N ts (r >>= next)
part A N f ts us at fin closes next (Ok a) t go = go a.0 a.1 t.f (fronts-more f t.f ts us a.1 at t.fronts) t.spells
part A N f ts us at fin closes next (Err left) v go = viable-in A N f ts us left at fin closes v

-- nothing of the rest was read yet: the rest of N is fin
abbrev pub ClosesAt : {Y : Type 0} → (List Placed → Y → List Placed → Type 0) → (List Placed → List Placed) → List Token → Type 0
ClosesAt {Y} N f fin = (n : ℕ) (rest : List Placed) → (y : Y) × N (f (onto n fin rest)) y rest

pub stops-here : {Y : Type 0} (N : List Placed → Y → List Placed → Type 0) (f : List Placed → List Placed) (ts us : List Placed) → Fronts f ts us → (fin : List Token) → ClosesAt N f fin → Viable N ts us
stops-here N f ts us at fin closes = record { f = f; fronts = at; fin = fin; ends = closes }

pub a-sign : {Y : Type 0} (N : List Placed → Y → List Placed → Type 0) (f : List Placed → List Placed) (ts us : List Placed) → Fronts f ts us → (fin : List Token) → ClosesAt N f fin
    → (wanted : Sign) (next : List Placed → Read Y)
    → ((k : ℕ) (vs : List Placed) → Fronts (λ (o : List Placed). f (Put k (token.Sign wanted) ∷ o)) ts vs → Tells N ts (next vs))
    → Tells N ts (after_sign wanted us >>= next)
a-sign {Y} N f ts (Put k (token.Sign s) ∷ us) at fin closes wanted next go = by (sign_code s == sign_code wanted) refl
  where
    by : (b : Bool) → (sign_code s == sign_code wanted) ≡ b → Tells N ts (cond b (Ok us) (Err (Put k (token.Sign s) ∷ us)) >>= next)
    by true e = go k us (fronts-more f (λ o. Put k (token.Sign wanted) ∷ o) ts (Put k (token.Sign s) ∷ us) us at
        (fronts-token (Put k (token.Sign wanted)) (Put k (token.Sign s) ∷ us) us (ap (λ (x : Sign). Put k (token.Sign x) ∷ us) (sign_code-equal s wanted e))))
    by false e = stops-here N f ts (Put k (token.Sign s) ∷ us) at fin closes
a-sign N f ts us at fin closes wanted next go = stops-here N f ts us at fin closes

pub a-word : {Y : Type 0} (N : List Placed → Y → List Placed → Type 0) (f : List Placed → List Placed) (ts us : List Placed) → Fronts f ts us → (fin : List Token) → ClosesAt N f fin
    → (wanted : Word) (next : List Placed → Read Y)
    → ((k : ℕ) (vs : List Placed) → Fronts (λ (o : List Placed). f (Put k (token.Word wanted) ∷ o)) ts vs → Tells N ts (next vs))
    → Tells N ts (after_word wanted us >>= next)
a-word {Y} N f ts (Put k (token.Word s) ∷ us) at fin closes wanted next go = by (word_code s == word_code wanted) refl
  where
    by : (b : Bool) → (word_code s == word_code wanted) ≡ b → Tells N ts (cond b (Ok us) (Err (Put k (token.Word s) ∷ us)) >>= next)
    by true e = go k us (fronts-more f (λ o. Put k (token.Word wanted) ∷ o) ts (Put k (token.Word s) ∷ us) us at
        (fronts-token (Put k (token.Word wanted)) (Put k (token.Word s) ∷ us) us (ap (λ (x : Word). Put k (token.Word x) ∷ us) (word_code-equal s wanted e))))
    by false e = stops-here N f ts (Put k (token.Word s) ∷ us) at fin closes
a-word N f ts us at fin closes wanted next go = stops-here N f ts us at fin closes

-- what is an A is an N
pub lift : {X : Type 0} (A N : List Placed → X → List Placed → Type 0) (ts : List Placed) → ((us : List Placed) (x : X) (rest : List Placed) → A us x rest → N us x rest) → (r : Read X) → Tells A ts r → Tells N ts r
lift A N ts each (Ok x) t = record { f = t.f; fronts = t.fronts; spells = λ o. each (t.f o) x.0 o (t.spells o) }
lift A N ts each (Err left) v = record { f = v.f; fronts = v.fronts; fin = v.fin; ends = λ n rest. let e = v.ends n rest in (e.0, each (v.f (onto n v.fin rest)) e.0 rest e.1) }

-- the same, with the front of the part too
pub part-front : {X Y : Type 0} (A : List Placed → X → List Placed → Type 0) (N : List Placed → Y → List Placed → Type 0) (f : List Placed → List Placed) (ts us : List Placed)
    → Fronts f ts us → (fin : List Token) → Closes A N f fin
    → (next : X × List Placed → Read Y) (r : Read X) → Tells A us r
    → ((a : X) (vs : List Placed) (g : List Placed → List Placed) → Fronts (λ (o : List Placed). f (g o)) ts vs → Fronts g us vs → ((other : List Placed) → A (g other) a other) → Tells N ts (next (a, vs)))
    → Tells N ts (r >>= next)
part-front A N f ts us at fin closes next (Ok a) t go = go a.0 a.1 t.f (fronts-more f t.f ts us a.1 at t.fronts) t.fronts t.spells
part-front A N f ts us at fin closes next (Err left) v go = viable-in A N f ts us left at fin closes v

pub a-name : {Y : Type 0} (N : List Placed → Y → List Placed → Type 0) (f : List Placed → List Placed) (ts us : List Placed) → Fronts f ts us → (fin : List Token) → ClosesAt N f fin
    → (next : Id × List Placed → Read Y)
    → ((n : List ℕ) (k : ℕ) (vs : List Placed) → Fronts (λ (o : List Placed). f (Put k (token.Ident n) ∷ o)) ts vs → Tells N ts (next (record { name = n; token = k }, vs)))
    → Tells N ts (name_at us >>= next)
a-name N f ts (Put k (token.Ident n) ∷ us) at fin closes next go =
    let p : Placed = Put k (token.Ident n) in go n k us (fronts-more f (λ o. p ∷ o) ts (p ∷ us) us at (fronts-token p (p ∷ us) us refl))
a-name N f ts us at fin closes next go = stops-here N f ts us at fin closes

pub a-number : {Y : Type 0} (N : List Placed → Y → List Placed → Type 0) (f : List Placed → List Placed) (ts us : List Placed) → Fronts f ts us → (fin : List Token) → ClosesAt N f fin
    → (next : Num × List Placed → Read Y)
    → ((x : ℤ) (k : ℕ) (vs : List Placed) → Fronts (λ (o : List Placed). f (Put k (token.Number x) ∷ o)) ts vs → Tells N ts (next (record { x = x; token = k }, vs)))
    → Tells N ts (number_at us >>= next)
a-number N f ts (Put k (token.Number x) ∷ us) at fin closes next go =
    let p : Placed = Put k (token.Number x) in go x k us (fronts-more f (λ o. p ∷ o) ts (p ∷ us) us at (fronts-token p (p ∷ us) us refl))
a-number N f ts us at fin closes next go = stops-here N f ts us at fin closes

-- one token is read
pub one-token : {X : Type 0} (N : List Placed → X → List Placed → Type 0) (p : Placed) (ts : List Placed) (x : X) → ((other : List Placed) → N (p ∷ other) x other) → Replaces N (p ∷ ts) x ts
one-token N p ts x each = record { f = λ o. p ∷ o; fronts = fronts-token p (p ∷ ts) ts refl; spells = each }
