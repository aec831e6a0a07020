-- No interval is overloaded where all the work fits between the last start of a window and the first end.
use Rattle.std.proofs.Common.{arith, ◌≡◌, ◌<◌, ◌≤◌, ◌*◌, ◌&&◌, cond, leb, leb-true, ℕ, zero, suc, ℤ, pos, ◌≤ℤ◌, Bool, true, false, subst}
use Rattle.htl_bulk.proofs.{Words.NoOverload, Words.Tables, Words.and_parts, Words.inside, Words.inside_tells, Words.int_le, Words.ints, Words.path_jobs, Words.paths, Words.sum_below, Words.tightened, Numbers.passes, Numbers.passed}
use Rattle.htl_edf.specs.Windows.{Windows}

-- the window has 5 ticks at most, begins by 5 and ends from 995 on
abbrev pub is_wide : Windows → ℕ → Bool
is_wide v q = leb (v.worst q) 5 && (leb (v.from q) 5 && int_le (pos 995) (v.due q))

abbrev pub are_wide : Windows → Bool
are_wide v = leb v.count 128 && passes (is_wide v) v.count

wide_at : (v : Windows) (q : ℕ) → passes (is_wide v) v.count ≡ true → q < v.count → (v.worst q ≤ 5) × (v.from q ≤ 5) × (pos 995 ≤ℤ v.due q)
wide_at v q h less =
    let p = and_parts (leb (v.worst q) 5) (leb (v.from q) 5 && int_le (pos 995) (v.due q)) (passed (is_wide v) v.count q h less) in
    let r = and_parts (leb (v.from q) 5) (int_le (pos 995) (v.due q)) p.1 in
    let late = r.1 in
    (leb-true (v.worst q) 5 p.0, leb-true (v.from q) 5 r.0, omega (arith, ints, late))

sums : (v : Windows) (a : ℕ) (b : ℤ) (n : ℕ) → ((q : ℕ) → q < n → v.worst q ≤ 5) → sum_below (λ q. cond (inside v a b q) (v.worst q) 0) n ≤ n * 5
sums v a b zero h = omega arith
sums v a b (suc n) h = omega (arith, sums v a b n (λ q less. h q (omega (arith, less))), term (inside v a b n) (h n (omega arith)))
  where
    term : (s : Bool) → v.worst n ≤ 5 → cond s (v.worst n) 0 ≤ 5
    term true few = few
    term false few = omega arith

free : (v : Windows) → are_wide v ≡ true → NoOverload v
free v h a b m over =
    let both = and_parts (leb v.count 128) (passes (is_wide v) v.count) h in
    let here = wide_at v over.some.0 both.1 over.some.1 in
    let in_it = inside_tells v a b over.some.0 over.some.2 in
    let most = sums v a b v.count (λ q less. (wide_at v q both.1 less).0) in
    let is = over.sums in
    let long = over.over in
    omega (arith, ints, in_it.0, in_it.1, here.1, here.2, most, is, long, leb-true v.count 128 both.0)

pub schedulable : (t : Tables) → paths t ≡ 1 → are_wide (tightened (path_jobs t 0)) ≡ true → (path : ℕ) → path < paths t → NoOverload (tightened (path_jobs t path))
schedulable t one wide path less =
    let same : 0 ≡ path = omega (arith, one, less) in
    subst (λ (p : ℕ). NoOverload (tightened (path_jobs t p))) same (free (tightened (path_jobs t 0)) wide)
