-- What precedes what among the invocations of one mode, as rows of bits.
use Rattle.std.proofs.Common.{◌≡◌, ◌≢◌, ◌<◌, ◌≤◌, ℕ, zero, suc, ◌+◌, ◌-◌, ◌*◌, ◌^◌, Bool, true, false, ◌&&◌, ◌||◌, cond, eqb, ltb, List, [], ◌∷◌, ◌++◌, length, get_or, set, take, drop, map, Option, Some, None, refl, sym, ◌∙◌, ap, subst, arith, inl, inr}
use Rattle.htl_form.proofs.Words.{slice_get, bit_at, bit_and, bit_or, or_zero_r, list_any, nat_tests, length-map, get_or-set_same, get_or-set_other, pow_pos, and_pow, bit_at-lt, slice_get-get_or, has_bit_or, leads_from, leads_within, leads_below, Leads, direct, through, feeds, feeds_at, row_by_reads, has_bit, cell, Inv, writes_to, is_from, AreInRange, Tables, and_true, precedes_itself, IsRangeOf, widened, through_one, through_all, AreWriters, follows, AreSteps, same_truth, below, get_or_mapped, cases_below_next}
use Rattle.htl_form.proofs.CycleLaws.{leads_same, precedes_true, true_precedes}

-- ---- rows of bits

widened_bit : (other k row b : ℕ) → has_bit (widened other k row) b ≡ (has_bit row b || (has_bit row k && has_bit other b))
widened_bit other k row b = by (has_bit row k)
  where
    by : (test : Bool) → has_bit (cond test (bit_or row other) row) b ≡ (has_bit row b || (test && has_bit other b))
    by true = has_bit_or row other b
    by false = nothing (has_bit row b)
      where
        nothing : (x : Bool) → x ≡ (x || false)
        nothing true = refl
        nothing false = refl

one_cell : (rows : List ℕ) (k a b : ℕ) → a < length rows → cell (through_one rows k) a b ≡ (cell rows a b || (cell rows a k && cell rows k b))
one_cell rows k a b h =
    ap (λ r. has_bit r b) (get_or_mapped (widened (get_or rows k 0) k) rows a h) ∙ widened_bit (get_or rows k 0) k (get_or rows a 0) b

-- a row stands where it shares nothing with the number that has bit k alone
pub widened_apart : (other bit k row : ℕ) → bit ≡ 2 ^ k → bit_and row bit ≡ 0 → row ≡ widened other k row
widened_apart other bit k row alone none = by (bit_at row k) refl
  where
    by : (b : ℕ) → bit_at row k ≡ b → row ≡ cond (eqb b 1) (bit_or row other) row
    by zero e = refl
    by (suc zero) e = absurd (lone (sym none ∙ ap (bit_and row) alone ∙ and_pow row k ∙ ap (λ b. b * 2 ^ k) e))
      where
        lone : 0 ≡ 1 * 2 ^ k → ⊥
        lone h = omega (arith, h, pow_pos k)
    by (suc (suc b)) e = absurd (let less = bit_at-lt row k in omega (arith, less, e))

-- and else is joined with the other
pub widened_shared : (other bit k row : ℕ) → bit ≡ 2 ^ k → bit_and row bit ≢ 0 → bit_or row other ≡ widened other k row
widened_shared other bit k row alone some = by (bit_at row k) refl
  where
    by : (b : ℕ) → bit_at row k ≡ b → bit_or row other ≡ cond (eqb b 1) (bit_or row other) row
    by zero e = absurd (some (ap (bit_and row) alone ∙ and_pow row k ∙ ap (λ b. b * 2 ^ k) e ∙ omega arith))
    by (suc zero) e = refl
    by (suc (suc b)) e = absurd (let less = bit_at-lt row k in omega (arith, less, e))

-- an empty row widens none
pub through_empty : (rows : List ℕ) (k : ℕ) → get_or rows k 0 ≡ 0 → through_one rows k ≡ rows
through_empty rows k h = ap (λ other. map (widened other k) rows) h ∙ all_stand rows
  where
    stands : (row : ℕ) (test : Bool) → cond test (bit_or row 0) row ≡ row
    stands row true = or_zero_r row
    stands row false = refl

    all_stand : (xs : List ℕ) → map (widened 0 k) xs ≡ xs
    all_stand [] = refl
    all_stand (x ∷ xs) = ap (λ y. y ∷ map (widened 0 k) xs) (stands x (has_bit x k)) ∙ ap (λ ys. x ∷ ys) (all_stand xs)

pub length_through : (rows : List ℕ) (k : ℕ) → length (through_all k rows) ≡ length rows
length_through rows zero = refl
length_through rows (suc k) = simp length-map (length_through rows k)

-- the rows that were widened by the rows below k
pub cell_below : (rows : List ℕ) (k a b : ℕ) → k ≤ length rows → a < length rows → cell (through_all k rows) a b ≡ leads_below (cell rows) k a b
cell_below rows zero a b within h = refl
cell_below rows (suc k) a b within h =
    one_cell (through_all k rows) k a b (subst (λ n. a < n) (sym (length_through rows k)) h)
    ∙ ap (λ x. x || (cell (through_all k rows) a k && cell (through_all k rows) k b)) (cell_below rows k a b (omega arith) h)
    ∙ ap (λ x. leads_below (cell rows) k a b || (x && cell (through_all k rows) k b)) (cell_below rows k a k (omega arith) h)
    ∙ ap (λ x. leads_below (cell rows) k a b || (leads_below (cell rows) k a k && x)) (cell_below rows k k b (omega arith) (omega arith))

-- a loop that widens row after row
pub map_step : (f : ℕ → ℕ) (xs : List ℕ) (i : ℕ) → i < length xs → set (map f (take i xs) ++ drop i xs) i (f (get_or xs i 0)) ≡ map f (take (suc i) xs) ++ drop (suc i) xs
map_step f [] i h = absurd (omega arith)
map_step f (x ∷ xs) zero h = refl
map_step f (x ∷ xs) (suc i) h = ap (λ ys. f x ∷ ys) (map_step f xs i (omega arith))

pub at_step : (f : ℕ → ℕ) (xs : List ℕ) (i : ℕ) → i < length xs → get_or (map f (take i xs) ++ drop i xs) i 0 ≡ get_or xs i 0
at_step f [] i h = absurd (omega arith)
at_step f (x ∷ xs) zero h = refl
at_step f (x ∷ xs) (suc i) h = at_step f xs i (omega arith)

-- ---- steps of the loops

-- one more row
pub one_row : (f : ℕ → ℕ → Bool) (rows : List ℕ) (b row n : ℕ) → b < length rows → ((x a : ℕ) → x < b → a < n → cell rows x a ≡ f x a)
    → ((a : ℕ) → a < n → has_bit row a ≡ f b a) → (x a : ℕ) → x < b + 1 → a < n → cell (set rows b row) x a ≡ f x a
one_row f rows b row n within before here x a below is_a =
    elim (cases_below_next x b below) [
      | inl less ↦
          let apart : x ≢ b = omega arith in
          ap (λ r. has_bit r a) (get_or-set_other rows b x row 0 apart) ∙ before x a less is_a
      | inr same ↦ subst (λ y. cell (set rows b row) y a ≡ f y a) (sym same) (ap (λ r. has_bit r a) (get_or-set_same rows b row 0 within) ∙ here a is_a)
    ]

-- ---- from the writers of each port to the steps

-- a row that has a bit for each writer of each port that an invocation reads is the row of its steps
pub row_is : (t : Tables) (m base n b a : ℕ) (y : Inv) (table : List ℕ) → AreInRange t → IsRangeOf t m base n → length table ≡ 4096 → AreWriters t base n table → b < n → a < n
    → slice_get t.invs (base + b) ≡ Some y → list_any (is_from table a) y.reads ≡ follows t base n b a
row_is t m base n b a y table r w len writers is_b is_a at = by (slice_get t.invs (base + a)) refl
  where
    sure : (x : Inv) → slice_get t.invs (base + a) ≡ Some x → follows t base n b a ≡ feeds_at (Some x) (Some y)
    sure x e =
        and_true (ltb b n) (ltb a n && feeds t (base + a) (base + b)) (below b n is_b)
        ∙ and_true (ltb a n) (feeds t (base + a) (base + b)) (below a n is_a)
        ∙ ap (λ o. feeds_at o (slice_get t.invs (base + b))) e
        ∙ ap (λ o. feeds_at (Some x) o) at

    by : (o : Option Inv) → slice_get t.invs (base + a) ≡ o → list_any (is_from table a) y.reads ≡ follows t base n b a
    by (Some x) here =
        row_by_reads t r x y (base + a) (base + b) here at table a len
        (λ p within. writers p a within ∙ and_true (ltb a n) (writes_to (slice_get t.invs (base + a)) p) (below a n is_a) ∙ ap (λ o. writes_to o p) here)
        ∙ sym (sure x here)
    by None none =
        let long = w.within in
        absurd (let no : None ≡ Some (get_or t.invs (base + a) y) = sym none ∙ slice_get-get_or t.invs (base + a) y (omega arith) in cc)

-- ---- from the steps to what precedes itself

pub unfold_follows : (t : Tables) (base n b a : ℕ) → follows t base n b a ≡ true → (b < n) × (a < n) × (feeds t (base + a) (base + b) ≡ true)
unfold_follows t base n b a h = by (ltb b n) (ltb a n) refl refl h
  where
    by : (x y : Bool) → ltb b n ≡ x → ltb a n ≡ y → (x && (y && feeds t (base + a) (base + b))) ≡ true → (b < n) × (a < n) × (feeds t (base + a) (base + b) ≡ true)
    by true true p q h = (grind (arith, nat_tests), grind (arith, nat_tests), h)
    by true false p q h = cc
    by false y p q h = cc

fold_follows : (t : Tables) (base n b a : ℕ) → b < n → a < n → feeds t (base + a) (base + b) ≡ true → follows t base n b a ≡ true
fold_follows t base n b a p q h = and_true (ltb b n) _ (below b n p) ∙ and_true (ltb a n) _ (below a n q) ∙ h

-- a way among the rows is a way among the invocations, backwards
pub way_out : (t : Tables) (base n b a : ℕ) → Leads (follows t base n) b a → Leads (feeds t) (base + a) (base + b)
way_out t base n b a (direct _ _ h) = direct (base + a) (base + b) (unfold_follows t base n b a h).2
way_out t base n b a (through _ c _ p q) = through (base + a) (base + c) (base + b) (way_out t base n c a q) (way_out t base n b c p)

pub same_mode : (t : Tables) (x y : ℕ) → feeds t x y ≡ true → (i j : Inv) × (slice_get t.invs x ≡ Some i) × (slice_get t.invs y ≡ Some j) × (i.mode ≡ j.mode)
same_mode t x y h = by (slice_get t.invs x) (slice_get t.invs y) refl refl h
  where
    by : (a b : Option Inv) → slice_get t.invs x ≡ a → slice_get t.invs y ≡ b → feeds_at a b ≡ true → (i j : Inv) × (slice_get t.invs x ≡ Some i) × (slice_get t.invs y ≡ Some j) × (i.mode ≡ j.mode)
    by (Some i) (Some j) p q h = (i, j, p, q, equal i.mode j.mode _ h)
      where
        equal : (a b : ℕ) (c : Bool) → (eqb a b && c) ≡ true → a ≡ b
        equal a b c h = grind (arith, nat_tests)
    by (Some i) None p q h = cc
    by None b p q h = cc

-- what leads to an invocation of the range is in the range, by a way among the rows
pub way_in : (t : Tables) (m base n : ℕ) → IsRangeOf t m base n → (x y : ℕ) → Leads (feeds t) x y → (b : ℕ) → b < n → y ≡ base + b
    → (a : ℕ) × (a < n) × (x ≡ base + a) × Leads (follows t base n) b a
way_in t m base n w x y (direct _ _ h) b below is =
    let s = same_mode t x y h in
    let mode = s.4 ∙ w.inside b s.1 below (ap (slice_get t.invs) (sym is) ∙ s.3) in
    let range = w.outside x s.0 s.2 mode in
    let a : ℕ = x - base in
    let a_below : a < n = omega (arith, range.0, range.1) in
    let a_is : x ≡ base + a = omega (arith, range.0) in
    (a, a_below, a_is, direct b a (fold_follows t base n b a below a_below (subst (λ z. feeds t z (base + b) ≡ true) a_is (subst (λ z. feeds t x z ≡ true) is h))))
way_in t m base n w x y (through _ z _ p q) b below is =
    let c = way_in t m base n w z y q b below is in
    let a = way_in t m base n w x z p c.0 c.1 c.2 in
    (a.0, a.1, a.2, through b c.0 a.0 c.3 a.3)

-- the closed rows say on their diagonal what precedes itself
pub diagonal : (t : Tables) (m base n q : ℕ) (rows : List ℕ) → IsRangeOf t m base n → n ≤ length rows → AreSteps t base n rows → q < n
    → cell (through_all n rows) q q ≡ precedes_itself t (base + q)
diagonal t m base n q rows w long steps below =
    cell_below rows n q q long (omega arith) ∙ leads_same (cell rows) (follows t base n) n steps n q q (omega arith) below below
    ∙ same_truth (leads_below (follows t base n) n q q) (precedes_itself t (base + q))
    (λ h. true_precedes t (base + q) (way_out t base n q q (leads_from (follows t base n) n q q h)))
    (λ h. leads_within (follows t base n) n (λ a b e. (unfold_follows t base n a b e).1) q q (back (way_in t m base n w (base + q) (base + q) (precedes_true t (base + q) h) q below refl)))
  where
    back : (a : ℕ) × (a < n) × (base + q ≡ base + a) × Leads (follows t base n) q a → Leads (follows t base n) q q
    back r = let is : r.0 ≡ q = omega (arith, r.2) in subst (λ a. Leads (follows t base n) q a) is r.3
