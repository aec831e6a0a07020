-- Two lists of tokens that are alike up to and with a token: reading stops before it or at it in both, or in none.
use Rattle.std.proofs.Common.{arith, ◌≡◌, ◌≤◌, ◌+◌, ℕ, Bool, true, false, cond, List, [], ◌∷◌, ◌++◌, length, Ok, Err, refl, sym, subst, ◌∙◌, inl, inr}
use Rattle.std.specs.Prelude.{◌==◌, ◌⊎◌}
use Rattle.htl_parse.proofs.{Words.Placed, Words.Put, Words.Sign, Words.sign_code, Fronts.Tells, Fronts.Fronts}
use Rattle.htl_text.specs.declared.token.Token.TheVariants as token
use Rattle.htl_parse.specs.Reading.{Read, left_of, Reader, ◌>>=◌, after_sign}

-- alike up to and with a token, behind which m and k stand
pub data Alike (m k : List Placed) : List Placed → List Placed → Type 0 where
  here : (p : Placed) → Alike m k (p ∷ m) (p ∷ k)
  later : (p : Placed) (us vs : List Placed) → Alike m k us vs → Alike m k (p ∷ us) (p ∷ vs)

abbrev pub Agree : {X : Type 0} → List Placed → List Placed → Read X → Read X → Type 0
Agree m k (Ok a) (Ok b) = (a.0 ≡ b.0) × Alike m k a.1 b.1
Agree m k (Err l) (Err j) = Alike m k l j
Agree m k _ _ = ⊥

-- the two do the same, or both went beyond the token
abbrev pub Both : {X : Type 0} → List Placed → List Placed → Read X → Read X → Type 0
Both m k r s = Agree m k r s ⊎ ((length (left_of r) ≤ length m) × (length (left_of s) ≤ length k))

pub record Local {X : Type 0} (read : Reader X) : Type 0 where
  pub less : (us : List Placed) → length (left_of (read us)) ≤ length us
  pub same : (m k us vs : List Placed) → Alike m k us vs → Both m k (read us) (read vs)

pub less-then : {A B : Type 0} (r : Read A) (f : A × List Placed → Read B) (j : ℕ) → length (left_of r) ≤ j → ((x : A × List Placed) → length (left_of (f x)) ≤ length x.1) → length (left_of (r >>= f)) ≤ j
less-then (Ok x) f j h each = let e = each x in omega (arith, h, e)
less-then (Err left) f j h each = h

pub both-then : {A B : Type 0} (m k : List Placed) (r s : Read A) (f g : A × List Placed → Read B) (i j : ℕ)
    → length (left_of r) ≤ i → length (left_of s) ≤ j → Both m k r s
    → ((x : A × List Placed) → length (left_of (f x)) ≤ length x.1) → ((x : A × List Placed) → length (left_of (g x)) ≤ length x.1)
    → ((a : A) (us vs : List Placed) → length us ≤ i → length vs ≤ j → Alike m k us vs → Both m k (f (a, us)) (g (a, vs)))
    → Both m k (r >>= f) (s >>= g)
both-then m k r s f g i j a b (inr p) lf lg each = inr (less-then r f (length m) p.0 lf, less-then s g (length k) p.1 lg)
both-then {A} {B} m k (Ok x) (Ok y) f g i j a b (inl e) lf lg each = subst (λ (z : A). Both m k (f x) (g (z, y.1))) e.0 (each x.0 x.1 y.1 a b e.1)
both-then m k (Err l) (Err h) f g i j a b (inl e) lf lg each = inl e
both-then m k (Ok x) (Err h) f g i j a b (inl e) lf lg each = absurd e
both-then m k (Err l) (Ok y) f g i j a b (inl e) lf lg each = absurd e

pub local-ok : {X : Type 0} (x : X) → Local (λ (us : List Placed). Ok (x, us))
local-ok x = record { less = λ us. omega arith; same = λ m k us vs al. inl (refl, al) }

pub local-then : {A B : Type 0} (r : Reader A) (next : A × List Placed → Read B) → Local r → ((a : A) → Local (λ (us : List Placed). next (a, us))) → Local (λ (ts : List Placed). r ts >>= next)
local-then r next lr each = record {
  less = λ us. less-then (r us) next (length us) (lr.less us) (λ x. (each x.0).less x.1);
  same = λ m k us vs al. both-then m k (r us) (r vs) next next (length us) (length vs) (lr.less us) (lr.less vs) (lr.same m k us vs al) (λ x. (each x.0).less x.1) (λ x. (each x.0).less x.1)
      (λ a ws xs h1 h2 l. (each a).same m k ws xs l);
}

-- a reader that refuses each token
pub local-err : {X : Type 0} → Local {X = X} (λ (us : List Placed). Err us)
local-err = record { less = λ us. omega arith; same = λ m k us vs al. inl al }

-- Behind p, tail passes it and reads what follows, or does what another reader does with p before.
abbrev pub Begun : {X : Type 0} → Placed → Reader X → Type 0
Begun {X} p tail = Local tail ⊎ ((other : Reader X) × Local other × ((us : List Placed) → other (p ∷ us) ≡ tail us))

-- a reader is local where it is behind each first token
pub local-by : {X : Type 0} (read : Reader X) → length (left_of (read [])) ≤ 0 → ((p : Placed) → Begun p (λ (us : List Placed). read (p ∷ us))) → Local read
local-by {X} read none each = record { less = less; same = same }
  where
    less-first : (p : Placed) → Begun p (λ (us : List Placed). read (p ∷ us)) → (us : List Placed) → length (left_of (read (p ∷ us))) ≤ length (p ∷ us)
    less-first p (inl l) us = let h = l.less us in omega (arith, h)
    less-first p (inr o) us = subst (λ (r : Read X). length (left_of r) ≤ length (p ∷ us)) (o.2 us) (o.1.less (p ∷ us))

    less : (us : List Placed) → length (left_of (read us)) ≤ length us
    less [] = none
    less (p ∷ us) = less-first p (each p) us

    as-other : (p : Placed) (other : Reader X) → Local other → ((us : List Placed) → other (p ∷ us) ≡ read (p ∷ us)) → (m k us vs : List Placed)
        → Alike m k (p ∷ us) (p ∷ vs)
        → Both m k (read (p ∷ us)) (read (p ∷ vs))
    as-other p other l is m k us vs al =
        subst (λ (r : Read X). Both m k r (read (p ∷ vs))) (is us) (subst (λ (r : Read X). Both m k (other (p ∷ us)) r) (is vs)
        (l.same m k (p ∷ us) (p ∷ vs) al))

    same-here : (m k : List Placed) (p : Placed) → Begun p (λ (us : List Placed). read (p ∷ us)) → Both m k (read (p ∷ m)) (read (p ∷ k))
    same-here m k p (inl l) = inr (l.less m, l.less k)
    same-here m k p (inr o) = as-other p o.0 o.1 o.2 m k m k (here p)

    same-later : (m k us vs : List Placed) → Alike m k us vs → (p : Placed) → Begun p (λ (us : List Placed). read (p ∷ us))
        → Both m k (read (p ∷ us)) (read (p ∷ vs))
    same-later m k us vs al p (inl l) = l.same m k us vs al
    same-later m k us vs al p (inr o) = as-other p o.0 o.1 o.2 m k us vs (later p us vs al)

    same : (m k us vs : List Placed) → Alike m k us vs → Both m k (read us) (read vs)
    same m k _ _ (here p) = same-here m k p (each p)
    same m k _ _ (later p us vs al) = same-later m k us vs al p (each p)

-- a reader is local that reads as one with a bound does, where that is long enough, and these are local
pub local-bound : {X : Type 0} (by : ℕ → Reader X) (read : Reader X) → ((n : ℕ) (us : List Placed) → length us ≤ n → read us ≡ by n us)
    → ((n : ℕ) → Local (by n)) → Local read
local-bound {X} by read is each = record {
  less = λ us. subst (λ (r : Read X). length (left_of r) ≤ length us) (sym (is (length us) us (omega arith))) ((each (length us)).less us);
  same = λ m k us vs al.
      let n : ℕ = length us + length vs in
      subst (λ (r : Read X). Both m k r (read vs)) (sym (is n us (omega arith)))
      (subst (λ (r : Read X). Both m k (by n us) r) (sym (is n vs (omega arith))) ((each n).same m k us vs al));
}

pub local-sign : {B : Type 0} (wanted : Sign) (next : List Placed → Read B) → Local next → Local (λ (ts : List Placed). after_sign wanted ts >>= next)
local-sign wanted next l = local-by (λ (ts : List Placed). after_sign wanted ts >>= next) (omega arith) each
  where
    each : (p : Placed) → Begun p (λ (us : List Placed). after_sign wanted (p ∷ us) >>= next)
    each (Put j (token.Sign s)) = elim (sign_code s == sign_code wanted)
        as (λ (b : Bool). Begun (Put j (token.Sign s)) (λ (us : List Placed). cond b (Ok us) (Err (Put j (token.Sign s) ∷ us)) >>= next))
        [ true ↦ inl l | false ↦ inr (λ us. Err us, local-err, λ us. refl) ]
    each p = inr (λ us. Err us, local-err, λ us. refl)

-- what is left is no longer than what there was
length-front : (front left : List Placed) → length left ≤ length (front ++ left)
length-front [] left = omega arith
length-front (p ∷ ps) left = let h = length-front ps left in omega (arith, h)

fronts-less : (f : List Placed → List Placed) (ts us : List Placed) → Fronts f ts us → length us ≤ length ts
fronts-less f ts us at = subst (λ (l : List Placed). length us ≤ length l) (sym (at.whole ∙ at.each us)) (length-front at.front us)

pub tells-less : {X : Type 0} (N : List Placed → X → List Placed → Type 0) (ts : List Placed) (r : Read X) → Tells N ts r → length (left_of r) ≤ length ts
tells-less N ts (Ok x) t = fronts-less t.f ts x.1 t.fronts
tells-less N ts (Err left) v = fronts-less v.f ts left v.fronts
