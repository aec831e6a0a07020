-- Tightening keeps exactly the schedules that meet, and deadlines on tightened windows keep the order.
use Rattle.std.proofs.Common.{◌≡◌, ℕ, zero, suc, ◌+◌, ◌-◌, ◌<◌, ◌≤◌, min, Bool, true, cond, refl, ap, arith, ⊎_elim, ℤ, pos, negsuc, ◌<ℤ◌}
use Rattle.htl_edf.proofs.Words.{cases_lt, cases_Bool, ints, bit, Windows, inside, demand_of, Overloaded, given, Served, Ready, IsEdf, NoOverload, Jobs, tight, NoCycle, TicksMeet}
use borrow.Author.Differences.{up}
use Rattle.htl_edf.proofs.{Counting.sum_below-within, Counting.sum_below-term, Refusal.bit-some, Refusal.bit-le, Refusal.one_part, Refusal.inside_from, Refusal.refused, Tightening.IsTight, Tightening.tight_is}
use Rattle.htl_edf.proofs.Optimal.{given-mono, given-more, given-le, missed, le_z_refl}

-- ticks of q from a on and below b are at most b - a
pub given-within : (on : ℕ → ℕ → Bool) (q a b t : ℕ) → ((x : ℕ) → on x q ≡ true → (a ≤ x) × (x < b)) → given on q t ≤ min t b - a
given-within on q a b t h = sum_below-within (λ x. bit (on x q)) a b t (λ x. bit-le (on x q)) (λ x k. h x (bit-some (on x q) k))

-- the ticks of q from a on, before t, are at most t - a
pub given-from : (on : ℕ → ℕ → Bool) (q a t : ℕ) → ((x : ℕ) → on x q ≡ true → a ≤ x) → given on q t ≤ t - a
given-from on q a zero h = omega arith
given-from on q a (suc t) h = ⊎_elim
    (λ yes. omega (arith, given-from on q a t h, h t yes, bit-le (on t q)))
    (λ no. omega (arith, given-from on q a t h, ap bit no))
    (cases_Bool (on t q))

-- each tick of q comes at its tightened release or later: by the order of the positions, k bounds the rank
after_from : (j : Jobs) (v : Windows) (o : NoCycle j) (tt' : IsTight j v) (on : ℕ → ℕ → Bool) (T : ℕ) → ((q : ℕ) → q < j.count → 0 < j.worst q) → TicksMeet j on T → (k q : ℕ) → q < j.count → o.rank q < k → (x : ℕ) → on x q ≡ true → v.from q ≤ x
after_from j v o t on T positive m zero q l a x e = absurd (omega arith)
after_from j v o t on T positive m (suc k) q l a x e = ⊎_elim
    (λ is. omega (arith, is, (m.within x q l e).0))
    (λ r. let p = r.0 in
    let here = given-from on p (v.from p) x (λ y h. after_from j v o t on T positive m k p r.1 (omega (arith, o.rises p q r.1 l r.2)) y h) in
    omega (arith, here, m.after x p q r.1 l r.2 e, positive p r.1, r.3))
    (t.from_is q l)

-- once a position has its worst case it gets no more
spent : (j : Jobs) (on : ℕ → ℕ → Bool) (T : ℕ) → TicksMeet j on T → (p x y : ℕ) → p < j.count → on x p ≡ true → j.worst p ≤ given on p y → x < y
spent j on T m p x y l e h = ⊎_elim
    (λ b. b)
    (λ b. absurd (omega (arith, given-mono on p y x b, m.most p (suc x) l, ap bit e)))
    (cases_lt x y)

-- each tick of p comes before its tightened end
before_due : (j : Jobs) (v : Windows) (o : NoCycle j) (t : IsTight j v) (on : ℕ → ℕ → Bool) (T : ℕ) → ((q : ℕ) → q < j.count → 0 < j.worst q) → TicksMeet j on T → (k p : ℕ) → p < j.count → j.count ≤ k + o.rank p → (x : ℕ) → on x p ≡ true → pos x <ℤ v.due p
before_due j v o t on T positive m zero p l a x e = absurd (omega (arith, o.below p l))
before_due j v o t on T positive m (suc k) p l a x e = ⊎_elim
    (λ is. rw is (omega (arith, ints, (m.within x p l e).1)))
    (λ r. let q = r.0 in
    let there = given-within on q (suc x) (up (v.due q)) T (λ y h.
    let d = before_due j v o t on T positive m k q r.1 (omega (arith, o.rises p q l r.1 r.2)) y h in
    (spent j on T m p x y l e (m.after y p q l r.1 r.2 h), omega (arith, ints))) in
    rw r.3 (omega (arith, ints, there, m.all q r.1, positive q r.1, one_part (v.due q))))
    (t.due_is p l)

pub tightened : (j : Jobs) (v : Windows) (o : NoCycle j) (t : IsTight j v) (on : ℕ → ℕ → Bool) (T : ℕ) → ((q : ℕ) → q < j.count → 0 < j.worst q) → TicksMeet j on T → Served v on T
tightened j v o t on T positive m = record {
  all = λ q l. omega (arith, t.lasts q, m.all q (omega (arith, t.counts)));
  within = λ x q l e. let k : q < j.count = omega (arith, t.counts) in
      (after_from j v o t on T positive m j.count q k (o.below q k) x e, before_due j v o t on T positive m j.count q k (omega arith) x e);
}

-- the law of refusal, over ticks
pub refuses : (j : Jobs) (o : NoCycle j) (on : ℕ → ℕ → Bool) (T a : ℕ) (b : ℤ) (demand : ℕ) → ((q : ℕ) → q < j.count → 0 < j.worst q) → Overloaded (tight j) a b demand → TicksMeet j on T → ⊥
refuses j o on T a b demand positive over m =
    let t = tight_is j o in
    refused (tight j) on T a b demand (λ q l. omega (arith, t.lasts q, positive q (omega (arith, t.counts)))) m.one (tightened j (tight j) o t on T positive m) over

-- ---- earliest deadline first on tightened windows

-- when q runs, its predecessors are done
pub in_order : (j : Jobs) (v : Windows) (t : IsTight j v) (on : ℕ → ℕ → Bool) → ((q : ℕ) → q < j.count → 0 < j.worst q) → IsEdf v on → (x p q : ℕ) → p < j.count → q < j.count → j.before p q ≡ true → on x q ≡ true → j.worst p ≤ given on p x
in_order j v t on positive edf x p q h l e on' = ⊎_elim
    (λ b. let ready : Ready v on x p = (omega (arith, t.counts), omega (arith, t.follows p q h l e, (edf.ready x q on').1), omega (arith, t.lasts p)) in
    absurd (omega (arith, ints, edf.least x q p on' ready, t.leaves p q h l e, positive q l)))
    (λ b. b)
    (cases_lt (given on p x) (j.worst p))

-- ---- no interval is overloaded

-- a window has room for its worst case
room : (v : Windows) → NoOverload v → (q : ℕ) → q < v.count → 0 < v.worst q → (d : ℕ) × (v.due q ≡ pos d) × (v.from q + v.worst q ≤ d)
room v none q l some = split (v.due q) refl
  where
    shown : (b : ℤ) → v.due q ≡ b → b <ℤ pos (v.from q + v.worst q) → ⊥
    shown b e h =
        let in' = inside_from v (v.from q) b q (omega arith) (rw e (le_z_refl b)) in
        let has = sum_below-term (λ p. cond (inside v (v.from q) b p) (v.worst p) 0) v.count q l in
        let is = ap (λ s. cond s (v.worst q) 0) in' in
        none (v.from q) b (demand_of v (v.from q) b) (record { some = (q, l, in'); sums = refl; over = omega (arith, ints) })

    split : (z : ℤ) → v.due q ≡ z → (d : ℕ) × (v.due q ≡ pos d) × (v.from q + v.worst q ≤ d)
    split (pos d) e = (d, e, ⊎_elim (λ h. absurd (shown (pos d) e (omega (arith, ints)))) (λ h. h) (cases_lt d (v.from q + v.worst q)))
    split (negsuc d) e = absurd (shown (negsuc d) e (omega (arith, ints)))

-- each position is done at the end of its tightened window
pub done : (v : Windows) (on : ℕ → ℕ → Bool) → IsEdf v on → NoOverload v → (q : ℕ) → q < v.count → 0 < v.worst q → (d : ℕ) × (v.due q ≡ pos d) × (v.worst q ≤ given on q d)
done v on edf none q l some =
    let r = room v none q l some in (
      r.0,
      r.1,
      ⊎_elim
          (λ late. let w = missed v on edf q r.0 l r.1 late in absurd (none w.0 (pos r.0) w.1 w.2))
          (λ h. h)
          (cases_lt (given on q r.0) (v.worst q)),
    )

pub optimal : (j : Jobs) (v : Windows) (t : IsTight j v) (on : ℕ → ℕ → Bool) (T : ℕ) → ((q : ℕ) → q < j.count → (0 < j.worst q) × (j.end q ≤ T)) → IsEdf v on → NoOverload v → TicksMeet j on T
optimal j v t on T good edf none = record {
  one = edf.one;
  all = λ q l. let d = fin q l in omega (arith, d.2, t.lasts q, given-mono on q d.0 T (omega (arith, last q l, (good q l).1)));
  most = λ q x l. omega (arith, given-le v on edf q x, t.lasts q);
  within = λ x q l e.
      let r = edf.ready x q e in
      let d = fin q l in (
        omega (arith, t.released q l, r.1),
        ⊎_elim (λ h. omega (arith, last q l)) (λ h. absurd (omega (arith, r.2, d.2, given-mono on q d.0 x h))) (cases_lt x d.0),
      );
  after = λ x p q h l b e. in_order j v t on (λ k m. (good k m).0) edf x p q h l b e;
}
  where
    fin : (q : ℕ) → q < j.count → (d : ℕ) × (v.due q ≡ pos d) × (v.worst q ≤ given on q d)
    fin q l = done v on edf none q (omega (arith, t.counts)) (omega (arith, t.lasts q, (good q l).0))

    last : (q : ℕ) (l : q < j.count) → (fin q l).0 ≤ j.end q
    last q l = omega (arith, ints, t.ended q l, (fin q l).1)

-- after an idle tick a position begins at its own release
pub gap : (j : Jobs) (v : Windows) (t : IsTight j v) (on : ℕ → ℕ → Bool) → ((q : ℕ) → q < j.count → 0 < j.worst q) → IsEdf v on → (x q : ℕ) → q < j.count → ((p : ℕ) → on x p ≡ true → ⊥) → on (suc x) q ≡ true → j.release q ≡ suc x
gap j v t on positive edf x q l idle e =
    let r = edf.ready (suc x) q e in
    let c : v.from q ≡ suc x = ⊎_elim
    (λ (b : v.from q < suc x). let ready : Ready v on x q = (r.0, omega arith, omega (arith, r.2, given-more on q x)) in
    let w = edf.busy x q ready in absurd (idle w.0 w.1))
    (λ b. omega (arith, r.1))
    (cases_lt (v.from q) (suc x)) in
    ⊎_elim
    (λ is. omega arith)
    (λ w. let p = w.0 in
    let few = given-from on p (v.from p) x (λ y h. (edf.ready y p h).1) in
    let same : bit (on x p) ≡ 0 = ⊎_elim (λ h. absurd (idle p h)) (λ h. ap bit h) (cases_Bool (on x p)) in
    absurd (omega (arith, few, same, positive p w.1, w.3, in_order j v t on positive edf (suc x) p q w.1 l w.2 e)))
    (t.from_is q l)
