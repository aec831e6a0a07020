-- An overloaded interval refuses every schedule.
use Rattle.std.proofs.Common.{◌≡◌, ℕ, ◌-◌, ◌<◌, ◌≤◌, min, Bool, true, false, cond, ◌&&◌, refl, sym, ap, ◌∙◌, arith, leb-true, le-leb, T, ℤ, pos, negsuc, ◌≤ℤ◌, int_le}
use Rattle.htl_edf.proofs.Words.{and_parts, and_from, ints, sum_below, bit, Windows, inside, demand_of, Overloaded, given, OneATick, Served}
use borrow.Author.Differences.{up, down}
use Rattle.htl_edf.proofs.Counting.{sum_below-none, sum_below-same, sum_below-le, sum_below-term, sum_below-swap, sum_below-one, sum_below-some, sum_below-within}

pub bit-some : (b : Bool) → 0 < bit b → b ≡ true
bit-some true h = refl
bit-some false h = absurd (omega arith)

pub bit-le : (b : Bool) → bit b ≤ 1
bit-le true = omega arith
bit-le false = omega arith

-- a count over the positions of a set, tick by tick
pub given-set : (s : ℕ → Bool) (on : ℕ → ℕ → Bool) (n t : ℕ) → sum_below (λ q. cond (s q) (given on q t) 0) n ≡ sum_below (λ x. sum_below (λ q. bit (s q && on x q)) n) t
given-set s on n t = sum_below-same _ _ n (λ q l. one (s q) q) ∙ sum_below-swap (λ x q. bit (s q && on x q)) n t
  where
    one : (b : Bool) (q : ℕ) → cond b (given on q t) 0 ≡ sum_below (λ x. bit (b && on x q)) t
    one true q = refl
    one false q = sym (sum_below-none t)

-- signed tests
pub true_from_T : (t : Bool) → T t → t ≡ true
true_from_T true h = refl
true_from_T false h = absurd h

pub int_le-yes : (a b : ℤ) → a ≤ℤ b → int_le a b ≡ true
int_le-yes a b h = true_from_T (int_le a b) h.le

pub inside_from : (v : Windows) (a : ℕ) (b : ℤ) (q : ℕ) → a ≤ v.from q → v.due q ≤ℤ b → inside v a b q ≡ true
inside_from v a b q h k = and_from _ _ (le-leb a (v.from q) h) (int_le-yes (v.due q) b k)

pub inside_tells : (v : Windows) (a : ℕ) (b : ℤ) (q : ℕ) → inside v a b q ≡ true → (a ≤ v.from q) × (v.due q ≤ℤ b)
inside_tells v a b q e = let p = and_parts _ _ e in (leb-true a (v.from q) p.0, omega (arith, ints))

-- what a tick gives to the positions inside [a, b]
abbrev given_at : (v : Windows) (on : ℕ → ℕ → Bool) (a : ℕ) (b : ℤ) → ℕ → ℕ
given_at v on a b x = sum_below (λ q. bit (inside v a b q && on x q)) v.count

given_at-le : (v : Windows) (on : ℕ → ℕ → Bool) (a : ℕ) (b : ℤ) → OneATick on → (x : ℕ) → given_at v on a b x ≤ 1
given_at-le v on a b one x = sum_below-one _ v.count (λ q _. bit-le (inside v a b q && on x q))
    (λ p q _ _ h k. one x p q (and_parts _ _ (bit-some _ h)).1 (and_parts _ _ (bit-some _ k)).1)

given_at-some : (v : Windows) (on : ℕ → ℕ → Bool) (T a : ℕ) (b : ℤ) → Served v on T → (x : ℕ) → 0 < given_at v on a b x → (a ≤ x) × (x < up b)
given_at-some v on T a b served x h =
    let r = sum_below-some (λ q. bit (inside v a b q && on x q)) v.count h in
    let both = and_parts _ _ (bit-some _ r.2) in
    let i = inside_tells v a b r.0 both.0 in
    let w = served.within x r.0 r.1 both.1 in
    (omega arith, omega (arith, ints))

pub term : (s : Bool) (a b : ℕ) → a ≤ b → cond s a 0 ≤ cond s b 0
term true a b h = h
term false a b h = omega arith

demand-le : (v : Windows) (on : ℕ → ℕ → Bool) (T a : ℕ) (b : ℤ) → OneATick on → Served v on T → demand_of v a b ≤ up b - a
demand-le v on T a b one served =
    let many = sum_below-le (λ q. cond (inside v a b q) (v.worst q) 0) (λ q. cond (inside v a b q) (given on q T) 0) v.count (λ q l. term (inside v a b q) _ _ (served.all q l)) in
    let is = given-set (inside v a b) on v.count T in
    let few = sum_below-within (given_at v on a b) a (up b) T (given_at-le v on a b one) (given_at-some v on T a b served) in
    omega arith

-- one of the two parts of an integer is 0
pub one_part : (b : ℤ) → min (up b) (down b) ≡ 0
one_part (pos n) = omega arith
one_part (negsuc n) = omega arith

pub refused : (v : Windows) (on : ℕ → ℕ → Bool) (T a : ℕ) (b : ℤ) (demand : ℕ) → ((q : ℕ) → q < v.count → 0 < v.worst q) → OneATick on → Served v on T → Overloaded v a b demand → ⊥
refused v on T a b demand positive one served over =
    let q = over.some.0 in
    let has = sum_below-term (λ p. cond (inside v a b p) (v.worst p) 0) v.count q over.some.1 in
    let is = ap (λ s. cond s (v.worst q) 0) over.some.2 in
    omega (arith, ints, has, is, positive q over.some.1, demand-le v on T a b one served, one_part b, over.sums, over.over)
