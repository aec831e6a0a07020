-- The laws of tightened windows.
use Rattle.std.proofs.Common.{add-one, ◌≡◌, ℕ, zero, suc, ◌+◌, ◌<◌, ◌≤◌, max, Bool, true, false, refl, sym, ap, ◌∙◌, arith, ◌⊎◌, inl, inr, ⊎_elim, ℤ, pos, ◌≤ℤ◌, ◌-ℤ◌, int_lt}
use Rattle.htl_edf.proofs.Words.{cases_lt, cases_Bool, ints, clamps, int_min, Windows}
use Rattle.htl_edf.specs.Tight.{Jobs, greatest_below, least_below, release_at, end_at, tight, NoCycle}

-- ---- the greatest and the least

pub greatest-same : (s : ℕ → Bool) (f g : ℕ → ℕ) (z n : ℕ) → ((p : ℕ) → p < n → s p ≡ true → f p ≡ g p) → greatest_below s f z n ≡ greatest_below s g z n
greatest-same s f g z zero h = refl
greatest-same s f g z (suc n) h =
    let rest = greatest-same s f g z n (λ p l. h p (omega arith)) in
    ⊎_elim (λ yes. rw yes (omega (arith, rest, h n (omega arith) yes))) (λ no. rw no rest) (cases_Bool (s n))

pub greatest-least : (s : ℕ → Bool) (f : ℕ → ℕ) (z n : ℕ) → z ≤ greatest_below s f z n
greatest-least s f z zero = omega arith
greatest-least s f z (suc n) = ⊎_elim (λ yes. rw yes (omega (arith, greatest-least s f z n))) (λ no. rw no (greatest-least s f z n)) (cases_Bool (s n))

pub greatest-le : (s : ℕ → Bool) (f : ℕ → ℕ) (z n p : ℕ) → p < n → s p ≡ true → f p ≤ greatest_below s f z n
greatest-le s f z zero p l e = absurd (omega arith)
greatest-le s f z (suc n) p l e = ⊎_elim
    (λ b. let rest = greatest-le s f z n p b e in
    ⊎_elim (λ yes. rw yes (omega (arith, rest))) (λ no. rw no rest) (cases_Bool (s n)))
    (λ (b : n ≤ p). let q : p ≡ n = omega arith in rw (sym (ap s q) ∙ e) (omega (arith, ap f q)))
    (cases_lt p n)

pub greatest_is : (s : ℕ → Bool) (f : ℕ → ℕ) (z n : ℕ) → (greatest_below s f z n ≡ z) ⊎ ((p : ℕ) × (p < n) × (s p ≡ true) × (greatest_below s f z n ≡ f p))
greatest_is s f z zero = inl refl
greatest_is s f z (suc n) =
    let rest = ⊎_elim {C = (greatest_below s f z n ≡ z) ⊎ ((p : ℕ) × (p < suc n) × (s p ≡ true) × (greatest_below s f z n ≡ f p))} inl (λ r. inr (r.0, omega (arith, r.1), r.2, r.3)) (greatest_is s f z n) in
    ⊎_elim
    (λ yes. rw yes (⊎_elim
    (λ b. inr (n, omega arith, yes, omega arith))
    (λ b. let m : max (greatest_below s f z n) (f n) ≡ greatest_below s f z n = omega arith in rw m rest)
    (cases_lt (greatest_below s f z n) (f n))))
    (λ no. rw no rest)
    (cases_Bool (s n))

pub least-same : (s : ℕ → Bool) (f g : ℕ → ℤ) (z : ℤ) (n : ℕ) → ((p : ℕ) → p < n → s p ≡ true → f p ≡ g p) → least_below s f z n ≡ least_below s g z n
least-same s f g z zero h = refl
least-same s f g z (suc n) h =
    let rest = least-same s f g z n (λ p l. h p (omega arith)) in
    ⊎_elim (λ yes. rw (yes, rest, h n (omega arith) yes)) (λ no. rw no rest) (cases_Bool (s n))

pub least-z : (s : ℕ → Bool) (f : ℕ → ℤ) (z : ℤ) (n : ℕ) → least_below s f z n ≤ℤ z
least-z s f z zero = omega (arith, ints)
least-z s f z (suc n) = ⊎_elim (λ yes. rw yes (omega (arith, ints, clamps, least-z s f z n))) (λ no. rw no (least-z s f z n)) (cases_Bool (s n))

pub least-le : (s : ℕ → Bool) (f : ℕ → ℤ) (z : ℤ) (n p : ℕ) → p < n → s p ≡ true → least_below s f z n ≤ℤ f p
least-le s f z zero p l e = absurd (omega arith)
least-le s f z (suc n) p l e = ⊎_elim
    (λ b. let rest = least-le s f z n p b e in
    ⊎_elim (λ yes. rw yes (omega (arith, ints, clamps, rest))) (λ no. rw no rest) (cases_Bool (s n)))
    (λ (b : n ≤ p). let q : p ≡ n = omega arith in rw (sym (ap s q) ∙ e) (rw q (omega (arith, ints, clamps))))
    (cases_lt p n)

pub least_is : (s : ℕ → Bool) (f : ℕ → ℤ) (z : ℤ) (n : ℕ) → (least_below s f z n ≡ z) ⊎ ((p : ℕ) × (p < n) × (s p ≡ true) × (least_below s f z n ≡ f p))
least_is s f z zero = inl refl
least_is s f z (suc n) =
    let rest = ⊎_elim {C = (least_below s f z n ≡ z) ⊎ ((p : ℕ) × (p < suc n) × (s p ≡ true) × (least_below s f z n ≡ f p))} inl (λ r. inr (r.0, omega (arith, r.1), r.2, r.3)) (least_is s f z n) in
    ⊎_elim
    (λ yes. rw yes (⊎_elim
    (λ b. rw b (inr (n, omega arith, yes, refl)))
    (λ b. rw b rest)
    (cases_Bool (int_lt (f n) (least_below s f z n)))))
    (λ no. rw no rest)
    (cases_Bool (s n))

-- ---- the recursion has come to rest

pub release_at-same : (j : Jobs) (o : NoCycle j) (k m q : ℕ) → q < j.count → o.rank q < k → o.rank q < m → release_at j k q ≡ release_at j m q
release_at-same j o zero m q l a b = absurd (omega arith)
release_at-same j o (suc k) zero q l a b = absurd (omega arith)
release_at-same j o (suc k) (suc m) q l a b =
    greatest-same (λ p. j.before p q) (λ p. release_at j k p + j.worst p) (λ p. release_at j m p + j.worst p) (j.release q) j.count
    (λ p h e. let r = o.rises p q h l e in ap (λ x. x + j.worst p) (release_at-same j o k m p h (omega arith) (omega arith)))

pub end_at-same : (j : Jobs) (o : NoCycle j) (k m p : ℕ) → p < j.count → j.count ≤ k + o.rank p → j.count ≤ m + o.rank p → end_at j k p ≡ end_at j m p
end_at-same j o zero m p l a b = absurd (omega (arith, o.below p l))
end_at-same j o (suc k) zero p l a b = absurd (omega (arith, o.below p l))
end_at-same j o (suc k) (suc m) p l a b =
    least-same (λ q. j.before p q) (λ q. end_at j k q -ℤ pos (j.worst q)) (λ q. end_at j m q -ℤ pos (j.worst q)) (pos (j.end p)) j.count
    (λ q h e. let r = o.rises p q l h e in ap (λ x. x -ℤ pos (j.worst q)) (end_at-same j o k m q h (omega arith) (omega arith)))

-- ---- what the tightened windows are

pub record IsTight (j : Jobs) (v : Windows) : Type 0 where
  pub counts : v.count ≡ j.count
  pub lasts : (q : ℕ) → v.worst q ≡ j.worst q
  pub released : (q : ℕ) → q < j.count → j.release q ≤ v.from q
  pub follows : (p q : ℕ) → p < j.count → q < j.count → j.before p q ≡ true → v.from p + j.worst p ≤ v.from q
  pub from_is : (q : ℕ) → q < j.count → (v.from q ≡ j.release q) ⊎ ((p : ℕ) × (p < j.count) × (j.before p q ≡ true) × (v.from q ≡ v.from p + j.worst p))
  pub ended : (p : ℕ) → p < j.count → v.due p ≤ℤ pos (j.end p)
  pub leaves : (p q : ℕ) → p < j.count → q < j.count → j.before p q ≡ true → v.due p ≤ℤ (v.due q -ℤ pos (j.worst q))
  pub due_is : (p : ℕ) → p < j.count → (v.due p ≡ pos (j.end p)) ⊎ ((q : ℕ) × (q < j.count) × (j.before p q ≡ true) × (v.due p ≡ v.due q -ℤ pos (j.worst q)))

pub release_at_is : (j : Jobs) (o : NoCycle j) (q : ℕ) → q < j.count → release_at j j.count q ≡ greatest_below (λ p. j.before p q) (λ p. release_at j j.count p + j.worst p) (j.release q) j.count
release_at_is j o q l = release_at-same j o j.count (suc j.count) q l (o.below q l) (omega (arith, o.below q l))

pub end_at_is : (j : Jobs) (o : NoCycle j) (p : ℕ) → p < j.count → end_at j j.count p ≡ least_below (λ q. j.before p q) (λ q. end_at j j.count q -ℤ pos (j.worst q)) (pos (j.end p)) j.count
end_at_is j o p l = end_at-same j o j.count (suc j.count) p l (omega arith) (omega arith)

pub tight_is : (j : Jobs) → NoCycle j → IsTight j (tight j)
unfolding tight
tight_is j o =
    let f = release_at j j.count in
    let d = end_at j j.count in
    record {
      counts = refl;
      lasts = λ q. refl;
      released = λ q l. rw (release_at_is j o q l) (greatest-least (λ p. j.before p q) (λ p. f p + j.worst p) (j.release q) j.count);
      follows = λ p q h l e. rw (release_at_is j o q l) (greatest-le (λ p. j.before p q) (λ p. f p + j.worst p) (j.release q) j.count p h e);
      from_is = λ q l. rw (release_at_is j o q l) (greatest_is (λ p. j.before p q) (λ p. f p + j.worst p) (j.release q) j.count);
      ended = λ p l. rw (end_at_is j o p l) (least-z (λ q. j.before p q) (λ q. d q -ℤ pos (j.worst q)) (pos (j.end p)) j.count);
      leaves = λ p q h l e. rw (end_at_is j o p h) (least-le (λ q. j.before p q) (λ q. d q -ℤ pos (j.worst q)) (pos (j.end p)) j.count q l e);
      due_is = λ p l. rw (end_at_is j o p l) (least_is (λ q. j.before p q) (λ q. d q -ℤ pos (j.worst q)) (pos (j.end p)) j.count);
    }

-- positions that don't pass change nothing
pub greatest_skipped : (s : ℕ → Bool) (f : ℕ → ℕ) (z m n : ℕ) → m ≤ n → ((x : ℕ) → m ≤ x → x < n → s x ≡ false) → greatest_below s f z n ≡ greatest_below s f z m
greatest_skipped s f z m zero l h = let e : m ≡ 0 = omega arith in ap (greatest_below s f z) (sym e)
greatest_skipped s f z m (suc n) l h = ⊎_elim
    (λ (b : n < m). let e : m ≡ suc n = omega arith in ap (greatest_below s f z) (sym e))
    (λ (b : m ≤ n). let here : s n ≡ false = h n b (omega arith) in rw here (greatest_skipped s f z m n b (λ x k i. h x k (omega arith))))
    (cases_lt n m)

pub least_skipped : (s : ℕ → Bool) (f : ℕ → ℤ) (z : ℤ) (m n : ℕ) → m ≤ n → ((x : ℕ) → m ≤ x → x < n → s x ≡ false) → least_below s f z n ≡ least_below s f z m
least_skipped s f z m zero l h = let e : m ≡ 0 = omega arith in ap (least_below s f z) (sym e)
least_skipped s f z m (suc n) l h = ⊎_elim
    (λ (b : n < m). let e : m ≡ suc n = omega arith in ap (least_below s f z) (sym e))
    (λ (b : m ≤ n). let here : s n ≡ false = h n b (omega arith) in rw here (least_skipped s f z m n b (λ x k i. h x k (omega arith))))
    (cases_lt n m)

-- one more position, as a loop counts them
pub greatest_more_yes : (s : ℕ → Bool) (f : ℕ → ℕ) (z n : ℕ) → s n ≡ true → greatest_below s f z (n + 1) ≡ max (greatest_below s f z n) (f n)
greatest_more_yes s f z n e = rw (add-one, e)

pub least_more_yes : (s : ℕ → Bool) (f : ℕ → ℤ) (z : ℤ) (n : ℕ) → s n ≡ true → least_below s f z (n + 1) ≡ int_min (least_below s f z n) (f n)
least_more_yes s f z n e = rw (add-one, e)
