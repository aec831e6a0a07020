-- Two lists of jobs with the same positions released before t make the same choices before t.
use Rattle.std.proofs.Common.{◌≡◌, ℕ, zero, suc, ◌<◌, ◌≤◌, Bool, true, ◌&&◌, refl, sym, ap, ◌∙◌, arith, leb, ltb, leb-true, ltb-true, le-leb, lt-ltb, le_antisymm, ℤ, Option, Some, None}
use Rattle.htl_edf.proofs.{Words.and_parts, Words.and_from, Words.ints, Words.bit, Words.Windows, Words.IsFrontOf, Ticks.Earliest, Ticks.earliest_is, Ticks.left_more, Ticks.left_start}
use Rattle.htl_edf.specs.Edf.{runs, left, edf, edf_on}

abbrev Passes : (ℕ → Bool) → ℕ → ℕ → Type 0
Passes s n q = (q < n) × (s q ≡ true)

Earliest-unique : (s r : ℕ → Bool) (f g : ℕ → ℤ) (n m : ℕ) (o u : Option ℕ) → ((q : ℕ) → Passes s n q → Passes r m q × (f q ≡ g q)) → ((q : ℕ) → Passes r m q → Passes s n q) → Earliest s f n o → Earliest r g m u → o ≡ u
Earliest-unique s r f g n m None None to from h k = refl
Earliest-unique s r f g n m None (Some p) to from h k = let w = from p (k.0, k.1) in absurd (h p w.0 w.1)
Earliest-unique s r f g n m (Some p) None to from h k = let w = to p (h.0, h.1) in absurd (k p w.0.0 w.0.1)
Earliest-unique s r f g n m (Some p) (Some q) to from h k =
    let a = to p (h.0, h.1) in
    let b = from q (k.0, k.1) in
    let c = to q b in
    let low = h.2 q b.0 b.1 in
    let high = k.2 p a.0.0 a.0.1 in
    ap Some (le_antisymm (low.1 (omega (arith, ints, high.0, a.1, c.1))) (high.1 (omega (arith, ints, low.0, a.1, c.1))))

-- what the two have left agrees
abbrev SameLeft : Windows → Windows → ℕ → ℕ → Type 0
SameLeft v w t x = (q : ℕ) → q < v.count → v.from q < t → left v x q ≡ left w x q

ready_in : (v w : Windows) (t x : ℕ) → IsFrontOf v w t → SameLeft v w t x → x < t → (q : ℕ) → Passes (λ p. leb (v.from p) x && ltb 0 (left v x p)) v.count q → Passes (λ p. leb (w.from p) x && ltb 0 (left w x p)) w.count q × (v.due q ≡ w.due q)
ready_in v w t x front same h q p =
    let b = and_parts (leb (v.from q) x) (ltb 0 (left v x q)) p.1 in
    let early = leb-true (v.from q) x b.0 in
    let f = front q p.0 (omega arith) in
    let l = same q p.0 (omega arith) in
    ((f.0, and_from _ _ (le-leb (w.from q) x (omega (arith, f.1))) (lt-ltb 0 (left w x q) (omega (arith, ltb-true 0 (left v x q) b.1)))), sym f.2)

same_choice : (v w : Windows) (t x : ℕ) → IsFrontOf v w t → IsFrontOf w v t → SameLeft v w t x → SameLeft w v t x → x < t → edf v x ≡ edf w x
unfolding edf
same_choice v w t x front back' same emas h =
    let s = λ (p : ℕ). leb (v.from p) x && ltb 0 (left v x p) in
    let r = λ (p : ℕ). leb (w.from p) x && ltb 0 (left w x p) in
    Earliest-unique s r v.due w.due v.count w.count _ _ (ready_in v w t x front same h) (λ q p. (ready_in w v t x back' emas h q p).0) (earliest_is s v.due v.count) (earliest_is r w.due w.count)

on-same : (v w : Windows) (x q : ℕ) → edf v x ≡ edf w x → edf_on v x q ≡ edf_on w x q
unfolding edf_on
on-same v w x q e = ap (λ o. runs o q) e

same_left : (v w : Windows) (t x : ℕ) → IsFrontOf v w t → IsFrontOf w v t → x ≤ t → SameLeft v w t x × SameLeft w v t x
same_left v w t zero front back' h = (λ q l f. left_start v q ∙ (sym (front q l f).3 ∙ sym (left_start w q)), λ q l f. left_start w q ∙ (sym (back' q l f).3 ∙ sym (left_start v q)))
same_left v w t (suc x) front back' h =
    let r = same_left v w t x front back' (omega arith) in
    let e = same_choice v w t x front back' r.0 r.1 h in (
      λ q l f. omega (arith, left_more v x q, left_more w x q, ap bit (on-same v w x q e), r.0 q l f),
      λ q l f. omega (arith, left_more v x q, left_more w x q, ap bit (on-same v w x q e), r.1 q l f),
    )

pub same_before : (v w : Windows) (t : ℕ) → IsFrontOf v w t → IsFrontOf w v t → (x : ℕ) → x < t → edf v x ≡ edf w x
same_before v w t front back' x h = let r = same_left v w t x front back' (omega arith) in same_choice v w t x front back' r.0 r.1 h
