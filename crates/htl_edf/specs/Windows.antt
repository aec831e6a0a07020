-- Tightened windows, overloaded intervals, and what ticks give to positions.
use Rattle.std.specs.Prelude.{◌≡◌, ℕ, ◌+◌, ◌<◌, ◌≤◌, Bool, true, cond, ◌&&◌, leb, ℤ, pos, ◌≤ℤ◌, ◌<ℤ◌, int_le}
use Rattle.htl_edf.specs.Sums.{sum_below, bit}

-- positions 0 .. count - 1, each with the first tick that may be its own, the end of its window, and its ticks
pub record Windows : Type 0 where
  pub count : ℕ
  pub from : ℕ → ℕ
  pub due : ℕ → ℤ
  pub worst : ℕ → ℕ

-- the position's window lies in [a, b]
abbrev pub inside : Windows → ℕ → ℤ → ℕ → Bool
inside v a b q = leb a (v.from q) && int_le (v.due q) b

-- the sum of the worst cases of the windows in [a, b]
abbrev pub demand_of : Windows → ℕ → ℤ → ℕ
demand_of v a b = sum_below (λ q. cond (inside v a b q) (v.worst q) 0) v.count

-- the windows in [a, b], at least one, ask for more ticks than b - a. No release is negative, so an interval that begins
-- before 0 says less than the one from 0.
pub record Overloaded (v : Windows) (a : ℕ) (b : ℤ) (demand : ℕ) : Type 0 where
  pub some : (q : ℕ) × (q < v.count) × (inside v a b q ≡ true)
  pub sums : demand ≡ demand_of v a b
  pub over : b <ℤ pos (a + demand)

-- ---- ticks: `on x q` says that tick x is given to position q

-- the ticks before t that are given to q
abbrev pub given : (ℕ → ℕ → Bool) → ℕ → ℕ → ℕ
given on q t = sum_below (λ x. bit (on x q)) t

-- one position a tick
abbrev pub OneATick : (ℕ → ℕ → Bool) → Type 0
OneATick on = (x p q : ℕ) → on x p ≡ true → on x q ≡ true → p ≡ q

-- each position has its worst case before T, in its window
pub record Served (v : Windows) (on : ℕ → ℕ → Bool) (T : ℕ) : Type 0 where
  pub all : (q : ℕ) → q < v.count → v.worst q ≤ given on q T
  pub within : (x q : ℕ) → q < v.count → on x q ≡ true → (v.from q ≤ x) × (pos x <ℤ v.due q)

-- ---- earliest deadline first, tick by tick

-- position q may run at tick x
abbrev pub Ready : Windows → (ℕ → ℕ → Bool) → ℕ → ℕ → Type 0
Ready v on x q = (q < v.count) × (v.from q ≤ x) × (given on q x < v.worst q)

-- at each tick one that may run does, if any, and none of them has an earlier end
pub record IsEdf (v : Windows) (on : ℕ → ℕ → Bool) : Type 0 where
  pub one : OneATick on
  pub ready : (x q : ℕ) → on x q ≡ true → Ready v on x q
  pub least : (x p q : ℕ) → on x p ≡ true → Ready v on x q → v.due p ≤ℤ v.due q
  pub busy : (x q : ℕ) → Ready v on x q → (p : ℕ) × (on x p ≡ true)

-- the interval that is reported: b the greatest end of an overloaded interval, then a the least release with it
pub record Reported (v : Windows) (a : ℕ) (b : ℤ) (demand : ℕ) : Type 0 where
  pub over : Overloaded v a b demand
  pub from_one : (q : ℕ) × (q < v.count) × (v.from q ≡ a)
  pub due_one : (q : ℕ) × (q < v.count) × (v.due q ≡ b)
  pub last : (p : ℕ) (c m : ℕ) → p < v.count → Overloaded v c (v.due p) m → v.due p ≤ℤ b
  pub first : (p m : ℕ) → p < v.count → Overloaded v (v.from p) b m → a ≤ v.from p

-- no interval is overloaded
abbrev pub NoOverload : Windows → Type 0
NoOverload v = (a : ℕ) (b : ℤ) (m : ℕ) → Overloaded v a b m → ⊥
