-- Lemmas on sums over positions and counts over ticks.
use Rattle.std.proofs.Common.{◌≡◌, ℕ, zero, suc, ◌+◌, ◌-◌, ◌<◌, ◌≤◌, min, refl, sym, ap, arith, ⊎_elim}
use Rattle.htl_edf.proofs.Words.{cases_lt, sum_below}

-- ---- sums

pub sum_below-add : (f g : ℕ → ℕ) (n : ℕ) → sum_below (λ x. f x + g x) n ≡ sum_below f n + sum_below g n
sum_below-add f g zero = refl
sum_below-add f g (suc n) = omega (arith, sum_below-add f g n)

pub sum_below-none : (n : ℕ) → sum_below (λ _. 0) n ≡ 0
sum_below-none zero = refl
sum_below-none (suc n) = omega (arith, sum_below-none n)

pub sum_below-same : (f g : ℕ → ℕ) (n : ℕ) → ((x : ℕ) → x < n → f x ≡ g x) → sum_below f n ≡ sum_below g n
sum_below-same f g zero h = refl
sum_below-same f g (suc n) h = omega (arith, sum_below-same f g n (λ x l. h x (omega arith)), h n (omega arith))

pub sum_below-le : (f g : ℕ → ℕ) (n : ℕ) → ((x : ℕ) → x < n → f x ≤ g x) → sum_below f n ≤ sum_below g n
sum_below-le f g zero h = omega arith
sum_below-le f g (suc n) h = omega (arith, sum_below-le f g n (λ x l. h x (omega arith)), h n (omega arith))

-- a term is within the sum
pub sum_below-term : (f : ℕ → ℕ) (n x : ℕ) → x < n → f x ≤ sum_below f n
sum_below-term f zero x l = absurd (omega arith)
sum_below-term f (suc n) x l = ⊎_elim
    (λ b. omega (arith, sum_below-term f n x b))
    (λ b. let e : x ≡ n = omega arith in omega (arith, ap f e))
    (cases_lt x n)

-- strictly below at one place, and nowhere above
pub sum_below-lt : (f g : ℕ → ℕ) (n p : ℕ) → p < n → f p < g p → ((x : ℕ) → x < n → f x ≤ g x) → sum_below f n < sum_below g n
sum_below-lt f g zero p l s h = absurd (omega arith)
sum_below-lt f g (suc n) p l s h = ⊎_elim
    (λ b. omega (arith, sum_below-lt f g n p b s (λ x k. h x (omega arith)), h n (omega arith)))
    (λ b. let e : p ≡ n = omega arith in omega (arith, ap f e, ap g e, sum_below-le f g n (λ x k. h x (omega arith))))
    (cases_lt p n)

-- the order of two sums does not matter
pub sum_below-swap : (f : ℕ → ℕ → ℕ) (n t : ℕ) → sum_below (λ q. sum_below (λ x. f x q) t) n ≡ sum_below (λ x. sum_below (λ q. f x q) n) t
sum_below-swap f zero t = sym (sum_below-none t)
sum_below-swap f (suc n) t = omega (arith, sum_below-swap f n t, sum_below-add (λ x. sum_below (λ q. f x q) n) (λ x. f x n) t)

-- no term but one is above 0, and that one is at most 1
pub sum_below-one : (f : ℕ → ℕ) (n : ℕ) → ((q : ℕ) → q < n → f q ≤ 1) → ((p q : ℕ) → p < n → q < n → 0 < f p → 0 < f q → p ≡ q) → sum_below f n ≤ 1
sum_below-one f zero h one = omega arith
sum_below-one f (suc n) h one = ⊎_elim
    (λ b. let other = λ (q : ℕ) (l : q < n). ⊎_elim {C = f q ≡ 0} (λ c. absurd (omega (arith, one q n (omega arith) (omega arith) c b))) (λ c. omega arith) (cases_lt 0 (f q)) in
    omega (arith, h n (omega arith), sum_below-same f (λ _. 0) n other, sum_below-none n))
    (λ b. omega (arith, sum_below-one f n (λ q l. h q (omega arith)) (λ p q l k. one p q (omega arith) (omega arith))))
    (cases_lt 0 (f n))

-- a positive sum has a positive term
pub sum_below-some : (f : ℕ → ℕ) (n : ℕ) → 0 < sum_below f n → (q : ℕ) × (q < n) × (0 < f q)
sum_below-some f zero h = absurd (omega arith)
sum_below-some f (suc n) h = ⊎_elim
    (λ b. (n, omega arith, b))
    (λ b. let r = sum_below-some f n (omega arith) in (r.0, omega (arith, r.1), r.2))
    (cases_lt 0 (f n))

-- ---- counts over ticks

-- each term is at most 1, and 0 outside [a, b)
pub sum_below-within : (g : ℕ → ℕ) (a b t : ℕ) → ((x : ℕ) → g x ≤ 1) → ((x : ℕ) → 0 < g x → (a ≤ x) × (x < b)) → sum_below g t ≤ min t b - a
sum_below-within g a b zero h w = omega arith
sum_below-within g a b (suc t) h w = ⊎_elim
    (λ c. omega (arith, sum_below-within g a b t h w, w t c, h t))
    (λ c. omega (arith, sum_below-within g a b t h w))
    (cases_lt 0 (g t))

-- each term of [a, t) is at least 1
pub sum_below-full : (g : ℕ → ℕ) (a t : ℕ) → ((x : ℕ) → a ≤ x → x < t → 0 < g x) → t ≤ a + sum_below g t
sum_below-full g a zero h = omega arith
sum_below-full g a (suc t) h = ⊎_elim
    (λ c. omega arith)
    (λ c. omega (arith, sum_below-full g a t (λ x l k. h x l (omega arith)), h t c (omega arith)))
    (cases_lt t a)
