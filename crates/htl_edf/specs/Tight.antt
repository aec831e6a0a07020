-- Jobs by position, and their tightened windows: a release comes after those of the predecessors and their work, an end
-- before those of the successors and their work (Blazewicz 1976; Chetto, Silly and Bouchentouf 1990).
use Rattle.std.specs.Prelude.{◌≡◌, ℕ, zero, suc, ◌+◌, ◌<◌, ◌≤◌, max, Bool, true, cond, ℤ, pos, ◌-ℤ◌}
use Rattle.std.specs.Int.{int_min}
use Rattle.htl_edf.specs.Windows.{Windows, given, OneATick}

-- positions 0 .. count - 1; `before p q` says that q waits for p
pub record Jobs : Type 0 where
  pub count : ℕ
  pub release : ℕ → ℕ
  pub end : ℕ → ℕ
  pub worst : ℕ → ℕ
  pub before : ℕ → ℕ → Bool

-- the greatest of z and all f p for p below n that pass s
abbrev pub greatest_below : (ℕ → Bool) → (ℕ → ℕ) → ℕ → ℕ → ℕ
greatest_below s f z zero = z
greatest_below s f z (suc n) = cond (s n) (max (greatest_below s f z n) (f n)) (greatest_below s f z n)

-- the least of z and all f p for p below n that pass s
abbrev pub least_below : (ℕ → Bool) → (ℕ → ℤ) → ℤ → ℕ → ℤ
least_below s f z zero = z
least_below s f z (suc n) = cond (s n) (int_min (least_below s f z n) (f n)) (least_below s f z n)

-- the tightened release of q, and the tightened end of p, over chains of at most k predecessors or successors
abbrev pub release_at : Jobs → ℕ → ℕ → ℕ
release_at j zero q = j.release q
release_at j (suc k) q = greatest_below (λ p. j.before p q) (λ p. release_at j k p + j.worst p) (j.release q) j.count

abbrev pub end_at : Jobs → ℕ → ℕ → ℤ
end_at j zero p = pos (j.end p)
end_at j (suc k) p = least_below (λ q. j.before p q) (λ q. end_at j k q -ℤ pos (j.worst q)) (pos (j.end p)) j.count

-- the tightened windows: a chain without a cycle has fewer than `count` steps
unfoldable pub tight : Jobs → Windows
tight j = record { count = j.count; from = release_at j j.count; due = end_at j j.count; worst = j.worst }

-- predecessors make no cycle: the positions have places in an order in which each comes after its predecessors
pub record NoCycle (j : Jobs) : Type 0 where
  pub rank : ℕ → ℕ
  pub below : (q : ℕ) → q < j.count → rank q < j.count
  pub rises : (p q : ℕ) → p < j.count → q < j.count → j.before p q ≡ true → rank p < rank q

-- each position has its worst case before T, in its window, and after its predecessors
pub record TicksMeet (j : Jobs) (on : ℕ → ℕ → Bool) (T : ℕ) : Type 0 where
  pub one : OneATick on
  pub all : (q : ℕ) → q < j.count → j.worst q ≤ given on q T
  pub most : (q t : ℕ) → q < j.count → given on q t ≤ j.worst q
  pub within : (x q : ℕ) → q < j.count → on x q ≡ true → (j.release q ≤ x) × (x < j.end q)
  pub after : (x p q : ℕ) → p < j.count → q < j.count → j.before p q ≡ true → on x q ≡ true → j.worst p ≤ given on p x
