-- Plain facts of tests: what their parts tell, and tests of numbers.
use Rattle.std.proofs.Common.{Bool, arith, cond, eqb, false, ne_eqb, refl, sym, true, ℕ, ◌&&◌, ◌<◌, ◌∙◌, ◌≡◌, ◌≢◌, ◌||◌, ltb, le-ltb}
use Rattle.std.proofs.{lemmas.Bool.eq-eqb, lemmas.Cmp.nat_eq_equiv}

pub and_first : (a b : Bool) → (a && b) ≡ true → a ≡ true
and_first true b e = refl
and_first false b e = e

pub cond_same : {A : Type 0} (b : Bool) (x : A) → cond b x x ≡ x
cond_same true x = refl
cond_same false x = refl

pub eqb_apart : (r q : ℕ) → eqb r q ≡ false → r ≢ q
eqb_apart r q e same = let no : true ≡ false = sym (eq-eqb r q same) ∙ e in cc

pub eqb_flips : (x y : ℕ) → eqb x y ≡ eqb y x
eqb_flips x y = nat_eq_equiv.symm x y

pub eqb_some : (n : ℕ) → 0 < n → eqb n 0 ≡ false
eqb_some n l = ne_eqb n 0 (λ e. omega (arith, e, l))

pub same_truth : (x y : Bool) → (x ≡ true → y ≡ true) → (y ≡ true → x ≡ true) → x ≡ y
same_truth true y f g = sym (f refl)
same_truth false true f g = g refl
same_truth false false f g = refl

pub true_not_false : (b : Bool) → b ≡ true → b ≡ false → ⊥
true_not_false b e f = let z : true ≡ false = sym e ∙ f in cc

pub and_none : (b : Bool) → (b && false) ≡ false
and_none true = refl
and_none false = refl

pub and_with_true : (b : Bool) → (b && true) ≡ b
and_with_true true = refl
and_with_true false = refl

pub or_with_false : (b : Bool) → (b || false) ≡ b
or_with_false true = refl
or_with_false false = refl

pub or_second : (a b : Bool) → (a || b) ≡ false → b ≡ false
or_second true b e = absurd cc
or_second false b e = e

pub none_below : (n : ℕ) → ltb n 0 ≡ false
none_below n = le-ltb n 0 (omega arith)

pub eqb_less : (a b : ℕ) → a < b → eqb a b ≡ false
eqb_less a b l = ne_eqb a b (λ e. omega (arith, e, l))
