-- More work keeps every overload: windows shrink and demands grow.
use Rattle.std.proofs.Common.{◌≡◌, ℕ, zero, suc, ◌+◌, ◌<◌, ◌≤◌, Bool, true, false, cond, refl, sym, ap, ◌∙◌, subst, arith, ⊎_elim, List, ℤ, pos, ◌≤ℤ◌, ◌-ℤ◌}
use Rattle.htl_edf.proofs.Words.{ints, has_bit, Job, sum_below, Windows, inside, demand_of, Overloaded, jobs_of, AsksMore, StaysOverloaded, MoreWork, AreLonger, LongerOverload, ShorterFit}
use Rattle.htl_edf.specs.Tight.{Jobs, greatest_below, least_below, release_at, end_at, tight}
use Rattle.htl_edf.proofs.{Counting.sum_below-le, Refusal.inside_from, Refusal.inside_tells, Tightening.greatest-least, Tightening.greatest-le, Tightening.greatest_is, Tightening.least-z, Tightening.least-le, Tightening.least_is}

-- ---- the greatest grows, the least falls

greatest-mono : (s r : ℕ → Bool) (f g : ℕ → ℕ) (y z n m : ℕ) → n ≤ m → y ≤ z → ((p : ℕ) → p < n → s p ≡ true → (r p ≡ true) × (f p ≤ g p)) → greatest_below s f y n ≤ greatest_below r g z m
greatest-mono s r f g y z n m l h more = ⊎_elim
    (λ e. omega (arith, e, h, greatest-least r g z m))
    (λ c. let i = more c.0 c.1 c.2 in omega (arith, c.3, i.1, greatest-le r g z m c.0 (omega (arith, c.1, l)) i.0))
    (greatest_is s f y n)

least-mono : (s r : ℕ → Bool) (f g : ℕ → ℤ) (y z : ℤ) (n m : ℕ) → n ≤ m → z ≤ℤ y → ((p : ℕ) → p < n → s p ≡ true → (r p ≡ true) × (g p ≤ℤ f p)) → least_below r g z m ≤ℤ least_below s f y n
least-mono s r f g y z n m l h less = ⊎_elim
    (λ e. rw e (omega (arith, ints, h, least-z r g z m)))
    (λ c. let i = less c.0 c.1 c.2 in rw c.3 (omega (arith, ints, i.1, least-le r g z m c.0 (omega (arith, c.1, l)) i.0)))
    (least_is s f y n)

-- ---- tightened windows shrink

module _ (j k : Jobs) (more : AsksMore j k) where
  release-mono : (m q : ℕ) → q < j.count → release_at j m q ≤ release_at k m q
  release-mono zero q l = more.release q l
  release-mono (suc m) q l =
      greatest-mono (λ p. j.before p q) (λ p. k.before p q) (λ p. release_at j m p + j.worst p) (λ p. release_at k m p + k.worst p) (j.release q) (k.release q) j.count k.count
      (omega (arith, more.count)) (more.release q l)
      (λ p h e. (more.before p q h l e, omega (arith, release-mono m p h, more.worst p h)))

  end-mono : (m p : ℕ) → p < j.count → end_at k m p ≤ℤ end_at j m p
  end-mono zero p l = omega (arith, ints, more.end p l)
  end-mono (suc m) p l =
      least-mono (λ q. j.before p q) (λ q. k.before p q) (λ q. end_at j m q -ℤ pos (j.worst q)) (λ q. end_at k m q -ℤ pos (k.worst q)) (pos (j.end p)) (pos (k.end p)) j.count k.count
      (omega (arith, more.count)) (omega (arith, ints, more.end p l))
      (λ q h e. (more.before p q l h e, omega (arith, ints, end-mono m q h, more.worst q h)))

  from-mono : (q : ℕ) → q < j.count → (tight j).from q ≤ (tight k).from q
  unfolding tight
  from-mono q l = omega (arith, release-mono j.count q l, ap (λ m. release_at k m q) more.count)

  due-mono : (q : ℕ) → q < j.count → (tight k).due q ≤ℤ (tight j).due q
  unfolding tight
  due-mono q l = subst (λ (e : ℤ). e ≤ℤ end_at j j.count q) (ap (λ (m : ℕ). end_at k m q) more.count) (end-mono j.count q l)

-- ---- demands grow

module _ (v w : Windows) (count : v.count ≡ w.count) (from : (q : ℕ) → q < v.count → v.from q ≤ w.from q) (due : (q : ℕ) → q < v.count → w.due q ≤ℤ v.due q)
    (worst : (q : ℕ) → q < v.count → v.worst q ≤ w.worst q) where
  inside-more : (a : ℕ) (b : ℤ) (q : ℕ) → q < v.count → inside v a b q ≡ true → inside w a b q ≡ true
  inside-more a b q l e =
      let i = inside_tells v a b q e in
      inside_from w a b q (omega (arith, i.0, from q l)) (omega (arith, ints, i.1, due q l))

  demand-more : (a : ℕ) (b : ℤ) → demand_of v a b ≤ demand_of w a b
  demand-more a b =
      let f = λ (q : ℕ). cond (inside v a b q) (v.worst q) 0 in
      let g = λ (q : ℕ). cond (inside w a b q) (w.worst q) 0 in
      omega (arith, sum_below-le f g v.count (λ q l. term q l (inside v a b q) (inside w a b q) (inside-more a b q l)), ap (sum_below g) count)
    where
      term : (q : ℕ) → q < v.count → (s r : Bool) → (s ≡ true → r ≡ true) → cond s (v.worst q) 0 ≤ cond r (w.worst q) 0
      term q l true r h = rw (h refl) (worst q l)
      term q l false r h = omega arith

  stays : (a : ℕ) (b : ℤ) (demand : ℕ) → Overloaded v a b demand → StaysOverloaded v w a b demand
  stays a b demand over =
      let q = over.some.0 in
      let l = over.some.1 in
      record {
        over = record {
          some = (q, omega (arith, l, count), inside-more a b q l over.some.2);
          sums = refl;
          over = omega (arith, ints, over.over, over.sums, demand-more a b);
        };
        more = omega (arith, over.sums, demand-more a b);
      }

tight_count : (j : Jobs) → (tight j).count ≡ j.count
unfolding tight
tight_count j = refl

tight_worst : (j : Jobs) (q : ℕ) → (tight j).worst q ≡ j.worst q
unfolding tight
tight_worst j q = refl

pub more_work : MoreWork
more_work j k more a b demand over =
    let c = tight_count j in
    stays (tight j) (tight k) (c ∙ more.count ∙ sym (tight_count k))
    (λ q l. from-mono j k more q (omega (arith, l, c))) (λ q l. due-mono j k more q (omega (arith, l, c)))
    (λ q l. omega (arith, more.worst q (omega (arith, l, c)), tight_worst j q, tight_worst k q))
    a b demand over

asks : (js ks : List Job) → AreLonger js ks → AsksMore (jobs_of js) (jobs_of ks)
asks js ks longer = record {
  count = longer.count;
  release = λ q l. omega (arith, (longer.each q l).release);
  end = λ q l. omega (arith, (longer.each q l).end);
  worst = λ q l. (longer.each q l).worst;
  before = λ p q h l e. sym (ap (λ (n : ℕ). has_bit n p) (longer.each q l).preds) ∙ e;
}

pub longer_overload : LongerOverload
longer_overload js ks longer a b demand over = more_work (jobs_of js) (jobs_of ks) (asks js ks longer) a b demand over

pub shorter_fit : ShorterFit
shorter_fit js ks longer none a b demand over = none a b _ (longer_overload js ks longer a b demand over).over
