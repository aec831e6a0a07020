-- Earliest deadline first meets every window unless an interval is overloaded.
use Rattle.std.proofs.Common.{◌≡◌, ℕ, zero, suc, ◌<◌, ◌≤◌, Bool, true, false, cond, ◌&&◌, refl, sym, ap, ◌∙◌, subst, arith, ltb, lt-ltb, ltb-true, ⊎_elim, ℤ, pos, ◌≤ℤ◌, int_le}
use Rattle.htl_edf.proofs.Words.{cases_lt, and_parts, and_from, cases_Bool, both_ways, ints, sum_below, bit, Windows, inside, demand_of, Overloaded, given, Ready, IsEdf}
use Rattle.htl_edf.proofs.{Counting.sum_below-lt, Counting.sum_below-term, Counting.sum_below-some, Counting.sum_below-full, Refusal.bit-some, Refusal.bit-le, Refusal.given-set, Refusal.inside_from, Refusal.int_le-yes, Refusal.term}

-- ---- the last place before d at which a test fails

record Back (f : ℕ → Bool) (d : ℕ) : Type 0 where
  start : ℕ
  within : start ≤ d
  holds : (x : ℕ) → start ≤ x → x < d → f x ≡ true
  before : (c : ℕ) → suc c ≡ start → f c ≡ false

back : (f : ℕ → Bool) (d : ℕ) → Back f d
back f zero = record { start = 0; within = omega arith; holds = λ x l k. absurd (omega arith); before = λ c e. absurd (omega arith) }
back f (suc d) = ⊎_elim
    (λ yes. let r = back f d in record {
      start = r.start;
      within = omega (arith, r.within);
      holds = λ x l k. ⊎_elim (λ b. r.holds x l b) (λ b. let e : x ≡ d = omega arith in ap f e ∙ yes) (cases_lt x d);
      before = r.before;
    })
    (λ no. record {
      start = suc d;
      within = omega arith;
      holds = λ x l k. absurd (omega arith);
      before = λ c e. let q : c ≡ d = omega arith in ap f q ∙ no;
    })
    (cases_Bool (f d))

-- ---- what is given grows, and stays within the worst case

pub given-more : (on : ℕ → ℕ → Bool) (q t : ℕ) → given on q t ≤ given on q (suc t)
given-more on q t = omega arith

pub given-mono : (on : ℕ → ℕ → Bool) (q s t : ℕ) → s ≤ t → given on q s ≤ given on q t
given-mono on q s zero h = let e : s ≡ 0 = omega arith in omega (arith, ap (given on q) e)
given-mono on q s (suc t) h = ⊎_elim
    (λ b. omega (arith, given-mono on q s t (omega arith)))
    (λ b. let e : s ≡ suc t = omega arith in omega (arith, ap (given on q) e))
    (cases_lt s (suc t))

pub given-le : (v : Windows) (on : ℕ → ℕ → Bool) → IsEdf v on → (q t : ℕ) → given on q t ≤ v.worst q
given-le v on edf q zero = omega arith
given-le v on edf q (suc t) = ⊎_elim
    (λ yes. omega (arith, (edf.ready t q yes).2, bit-le (on t q)))
    (λ no. omega (arith, given-le v on edf q t, ap bit no))
    (cases_Bool (on t q))

-- ---- the busy interval

-- tick x goes to a position whose window ends by b
abbrev pressing : (v : Windows) (on : ℕ → ℕ → Bool) (b : ℤ) → ℕ → Bool
pressing v on b x = ltb 0 (sum_below (λ q. bit (int_le (v.due q) b && on x q)) v.count)

pressing_tells : (v : Windows) (on : ℕ → ℕ → Bool) (b : ℤ) (x : ℕ) → pressing v on b x ≡ true → (q : ℕ) × (q < v.count) × (int_le (v.due q) b ≡ true) × (on x q ≡ true)
pressing_tells v on b x e =
    let r = sum_below-some (λ q. bit (int_le (v.due q) b && on x q)) v.count (ltb-true _ _ e) in
    let p = and_parts _ _ (bit-some _ r.2) in
    (r.0, r.1, p.0, p.1)

pressing_from : (v : Windows) (on : ℕ → ℕ → Bool) (b : ℤ) (x q : ℕ) → q < v.count → int_le (v.due q) b ≡ true → on x q ≡ true → pressing v on b x ≡ true
pressing_from v on b x q l d o =
    let t = sum_below-term (λ q. bit (int_le (v.due q) b && on x q)) v.count q l in
    let e = ap bit (and_from _ _ d o) in
    lt-ltb _ _ (omega arith)

-- a position that is unfinished at t, and whose window ends by b, is released after each earlier tick that is not pressing
released_after : (v : Windows) (on : ℕ → ℕ → Bool) (edf : IsEdf v on) (b : ℤ) (c q t : ℕ) → pressing v on b c ≡ false → c ≤ t → q < v.count → int_le (v.due q) b ≡ true → given on q t < v.worst q → c < v.from q
released_after v on edf b c q t idle l k d open' = ⊎_elim
    (λ h. h)
    (λ h. let ready : Ready v on c q = (k, h, omega (arith, given-mono on q c t l)) in
    let r = edf.busy c q ready in
    let w = edf.least c r.0 q r.1 ready in
    let at : v.due r.0 ≤ℤ b = omega (arith, ints) in
    absurd (both_ways _ idle (pressing_from v on b c r.0 (edf.ready c r.0 r.1).0 (int_le-yes _ b at) r.1)))
    (cases_lt c (v.from q))

early_at : (v : Windows) (on : ℕ → ℕ → Bool) (edf : IsEdf v on) (b : ℤ) (a : ℕ) → ((c : ℕ) → suc c ≡ a → pressing v on b c ≡ false) → (q t : ℕ) → a ≤ t → q < v.count → v.due q ≤ℤ b → given on q t < v.worst q → a ≤ v.from q
early_at v on edf b zero before q t s k h o = omega arith
early_at v on edf b (suc c) before q t s k h o = released_after v on edf b c q t (before c refl) (omega arith) k (int_le-yes _ b h) o

int_le-true : (a b : ℤ) → int_le a b ≡ true → a ≤ℤ b
int_le-true a b e = omega (arith, ints)

pub le_z_refl : (b : ℤ) → b ≤ℤ b
le_z_refl b = omega (arith, ints)

-- a position that misses the end d of its window shows an overloaded interval
pub missed : (v : Windows) (on : ℕ → ℕ → Bool) (edf : IsEdf v on) (p d : ℕ) → p < v.count → v.due p ≡ pos d → given on p d < v.worst p → (a : ℕ) × (m : ℕ) × Overloaded v a (pos d) m
missed v on edf p d l e late =
    let b = pos d in
    let r = back (pressing v on b) d in
    let a = r.start in
    -- an unfinished position whose window ends by d is released at a or later
    let early = λ (q t : ℕ) (s : a ≤ t) (k : q < v.count) (h : v.due q ≤ℤ b) (o : given on q t < v.worst q).
    early_at v on edf b a r.before q t s k h o in
    let due : v.due p ≤ℤ b = subst (λ z. z ≤ℤ b) (sym e) (le_z_refl b) in
    let s = inside v a b in
    let at = λ (x : ℕ). sum_below (λ q. bit (s q && on x q)) v.count in
    let full = λ (x : ℕ) (h : a ≤ x) (k : x < d).
    let w = pressing_tells v on b x (r.holds x h k) in
    let i = inside_from v a b w.0 (early w.0 x h w.1 (int_le-true _ b w.2) (edf.ready x w.0 w.3).2) (int_le-true _ b w.2) in
    let t = sum_below-term (λ q. bit (s q && on x q)) v.count w.0 w.1 in
    let one = ap bit (and_from _ _ i w.3) in
    let some : 0 < at x = omega arith in some in
    let many = sum_below-full at a d full in
    let is = given-set s on v.count d in
    let in' = inside_from v a b p (early p d r.within l due late) due in
    let more = ap (λ t. cond t (given on p d) 0) in' in
    let less = ap (λ t. cond t (v.worst p) 0) in' in
    let below = sum_below-lt (λ q. cond (s q) (given on q d) 0) (λ q. cond (s q) (v.worst q) 0) v.count p l (omega arith) (λ q k. term (s q) _ _ (given-le v on edf q d)) in
    (a, demand_of v a b, record { some = (p, l, in'); sums = refl; over = omega (arith, ints) })
