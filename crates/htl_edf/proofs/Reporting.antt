-- Which overloaded interval is reported.
use Rattle.std.proofs.Common.{◌≡◌, ℕ, zero, suc, ◌+◌, ◌<◌, ◌≤◌, Bool, true, false, cond, refl, ap, arith, ◌⊎◌, inl, inr, ⊎_elim, ℤ, pos, ◌<ℤ◌, ◌≤ℤ◌, int_le, neg_ℤ, Option, Some, None}
use Rattle.htl_edf.proofs.{Words.cases_Bool, Words.ints, Words.Windows, Words.inside, Words.demand_of, Words.Overloaded, Words.Reported, Words.Jobs, Words.NoCycle, Words.earliest, Counting.sum_below-le, Counting.sum_below-term}
use Rattle.htl_edf.proofs.{Refusal.inside_tells, Refusal.inside_from, Optimal.le_z_refl, Ticks.Earliest, Ticks.earliest_is, Tightening.IsTight}

-- a narrower interval that holds the same windows demands no less
grows : (s r : Bool) (w : ℕ) → (s ≡ true → r ≡ true) → cond s w 0 ≤ cond r w 0
grows true r w h = rw (h refl) (omega arith)
grows false r w h = omega arith

demand-grows : (v : Windows) (a c : ℕ) (b d : ℤ) → ((q : ℕ) → q < v.count → inside v a b q ≡ true → inside v c d q ≡ true) → demand_of v a b ≤ demand_of v c d
demand-grows v a c b d h = sum_below-le (λ q. cond (inside v a b q) (v.worst q) 0) (λ q. cond (inside v c d q) (v.worst q) 0) v.count (λ q l. grows (inside v a b q) (inside v c d q) (v.worst q) (h q l))

cases_z : (a b : ℤ) → (a ≤ℤ b) ⊎ (b <ℤ a)
cases_z a b = ⊎_elim (λ e. inl (omega (arith, ints))) (λ e. inr (omega (arith, ints))) (cases_Bool (int_le a b))

-- the position that passes whose number is least
pub least_of : (s : ℕ → Bool) (f : ℕ → ℤ) (n q : ℕ) → q < n → s q ≡ true → (p : ℕ) × (p < n) × (s p ≡ true) × ((r : ℕ) → r < n → s r ≡ true → f p ≤ℤ f r)
least_of s f n q l e = by (earliest s f n) (earliest_is s f n)
  where
    by : (o : Option ℕ) → Earliest s f n o → (p : ℕ) × (p < n) × (s p ≡ true) × ((r : ℕ) → r < n → s r ≡ true → f p ≤ℤ f r)
    by None h = absurd (h q l e)
    by (Some p) h = (p, h.0, h.1, λ r k g. (h.2 r k g).0)

-- an overloaded interval holds one from a release to an end
pub narrowed : (v : Windows) (a : ℕ) (b : ℤ) (m : ℕ) → Overloaded v a b m → (p : ℕ) × (q : ℕ) × (k : ℕ) × (p < v.count) × (q < v.count) × (a ≤ v.from p) × (v.due q ≤ℤ b) × Overloaded v (v.from p) (v.due q) k
narrowed v a b m over =
    let i = over.some.0 in
    let low = least_of (inside v a b) (λ q. pos (v.from q)) v.count i over.some.1 over.some.2 in
    let high = least_of (inside v a b) (λ q. neg_ℤ (v.due q)) v.count i over.some.1 over.some.2 in
    let p = low.0 in
    let q = high.0 in
    let here = λ (r : ℕ) (l : r < v.count) (e : inside v a b r ≡ true).
    inside_from v (v.from p) (v.due q) r (omega (arith, ints, low.3 r l e)) (omega (arith, ints, high.3 r l e)) in
    let x = inside_tells v a b p low.2 in
    let y = inside_tells v a b q high.2 in
    let many = demand-grows v a (v.from p) b (v.due q) here in (
      p,
      q,
      demand_of v (v.from p) (v.due q),
      low.1,
      high.1,
      x.0,
      y.1,
      record {
        some = (p, low.1, here p low.1 low.2);
        sums = refl;
        over = omega (arith, ints, over.sums, over.over, many);
      },
    )

-- the same with the end kept
pub raised : (v : Windows) (a : ℕ) (b : ℤ) (m : ℕ) → Overloaded v a b m → (p : ℕ) × (k : ℕ) × (p < v.count) × Overloaded v (v.from p) b k
raised v a b m over =
    let i = over.some.0 in
    let low = least_of (inside v a b) (λ q. pos (v.from q)) v.count i over.some.1 over.some.2 in
    let p = low.0 in
    let here = λ (r : ℕ) (l : r < v.count) (e : inside v a b r ≡ true).
    inside_from v (v.from p) b r (omega (arith, ints, low.3 r l e)) (inside_tells v a b r e).1 in
    let x = inside_tells v a b p low.2 in
    let many = demand-grows v a (v.from p) b b here in (
      p,
      demand_of v (v.from p) b,
      low.1,
      record {
        some = (p, low.1, here p low.1 low.2);
        sums = refl;
        over = omega (arith, ints, over.sums, over.over, many);
      },
    )

-- no interval is overloaded if none from a release to an end is
pub none_from_candidates : (v : Windows) → ((p q m : ℕ) → p < v.count → q < v.count → Overloaded v (v.from p) (v.due q) m → ⊥) → (a : ℕ) (b : ℤ) (m : ℕ) → Overloaded v a b m → ⊥
none_from_candidates v h a b m over = let w = narrowed v a b m over in h w.0 w.1 w.2 w.3 w.4 w.7

-- ---- the reported end is 1 or later

-- a position whose window is shorter than its worst case shows an overloaded interval
short : (v : Windows) (q : ℕ) → q < v.count → 0 < v.worst q → v.due q <ℤ pos (v.from q + v.worst q) → (m : ℕ) × Overloaded v (v.from q) (v.due q) m
short v q l some h =
    let in' = inside_from v (v.from q) (v.due q) q (omega arith) (le_z_refl (v.due q)) in
    let has = sum_below-term (λ p. cond (inside v (v.from q) (v.due q) p) (v.worst p) 0) v.count q l in
    let is = ap (λ s. cond s (v.worst q) 0) in' in
    (demand_of v (v.from q) (v.due q), record { some = (q, l, in'); sums = refl; over = omega (arith, ints) })

-- from a position whose window ends at 0 or before, along its successors, to one whose window is short and ends at 1 or later
later : (j : Jobs) (v : Windows) (o : NoCycle j) (t : IsTight j v) → ((q : ℕ) → q < j.count → (0 < j.worst q) × (0 < j.end q)) → (k p : ℕ) → p < j.count → j.count ≤ k + o.rank p → v.due p ≤ℤ pos 0 → (q : ℕ) × (m : ℕ) × (q < v.count) × (pos 0 <ℤ v.due q) × Overloaded v (v.from q) (v.due q) m
later j v o t good zero p l a h = absurd (omega (arith, o.below p l))
later j v o t good (suc k) p l a h = ⊎_elim
    (λ is. absurd (omega (arith, ints, is, (good p l).1)))
    (λ r. let q = r.0 in
    ⊎_elim
    (λ b. later j v o t good k q r.1 (omega (arith, o.rises p q l r.1 r.2)) (omega (arith, ints, b)))
    (λ b. let s = short v q (omega (arith, t.counts, r.1)) (omega (arith, t.lasts q, (good q r.1).0)) (omega (arith, ints, r.3, t.lasts q, t.follows p q l r.1 r.2, (good p l).0)) in
    (q, s.0, omega (arith, t.counts, r.1), b, s.1))
    (cases_z (v.due q) (pos 0)))
    (t.due_is p l)

pub end_positive : (j : Jobs) (v : Windows) (o : NoCycle j) (t : IsTight j v) → ((q : ℕ) → q < j.count → (0 < j.worst q) × (0 < j.end q)) → (a : ℕ) (b : ℤ) (m : ℕ) → Reported v a b m → pos 0 <ℤ b
end_positive j v o t good a b m r = ⊎_elim
    (λ h. let q = r.due_one in
    let w = later j v o t good j.count q.0 (omega (arith, t.counts, q.1)) (omega arith) (omega (arith, ints, q.2)) in
    absurd (omega (arith, ints, r.last w.0 (v.from w.0) w.1 w.2 w.4, w.3)))
    (λ h. h)
    (cases_z b (pos 0))
