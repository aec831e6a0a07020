-- What precedes what among the invocations of one mode, as rows of bits.
use Rattle.std.specs.Prelude.{◌≡◌, ◌≤◌, ◌<◌, ℕ, zero, suc, ◌+◌, Bool, false, cond, ltb, ◌&&◌, List, get_or, map, length, slice_get, Some}
use Rattle.std.specs.Int.Bits.{bit_or}
use Rattle.htl_model.specs.{declared.parts.Inv.Inv, Bits.has_bit, Bits.cell, PortOrder.feeds, PortTable.writes_to, Tables.Tables}
use Rattle.htl_form.specs.Cycles.{precedes_itself}

-- the invocations of mode m are the n from `base` on, at most 128
pub record IsRangeOf (t : Tables) (m base n : ℕ) : Type 0 where
  pub within : base + n ≤ length t.invs
  pub few : n ≤ 128
  pub inside : (q : ℕ) (i : Inv) → q < n → slice_get t.invs (base + q) ≡ Some i → i.mode ≡ m
  pub outside : (k : ℕ) (i : Inv) → slice_get t.invs k ≡ Some i → i.mode ≡ m → (base ≤ k) × (k < base + n)

-- ---- rows that are widened

-- a row, with another row where it has bit k
abbrev pub widened : ℕ → ℕ → ℕ → ℕ
widened other k row = cond (has_bit row k) (bit_or row other) row

abbrev pub through_one : List ℕ → ℕ → List ℕ
through_one rows k = map (widened (get_or rows k 0) k) rows

abbrev pub through_all : ℕ → List ℕ → List ℕ
through_all zero rows = rows
through_all (suc k) rows = through_one (through_all k rows) k

-- ---- the writers of each port

-- the table has for each port a bit for each of the n invocations from `base` on that writes it
abbrev pub AreWriters : Tables → ℕ → ℕ → List ℕ → Type 0
AreWriters t base n table = (p q : ℕ) → p < length table → cell table p q ≡ (ltb q n && writes_to (slice_get t.invs (base + q)) p)

-- ---- the steps of a mode

-- of the n invocations from `base` on, number b reads a port that number a writes
abbrev pub follows : Tables → ℕ → ℕ → ℕ → ℕ → Bool
follows t base n b a = ltb b n && (ltb a n && feeds t (base + a) (base + b))

abbrev pub AreSteps : Tables → ℕ → ℕ → List ℕ → Type 0
AreSteps t base n rows = (b a : ℕ) → b < n → a < n → cell rows b a ≡ follows t base n b a

-- the marks of the n invocations from `base` on say which precede themselves, and the others are as they were
pub record AreMarked (t : Tables) (base n : ℕ) (old new : List Bool) : Type 0 where
  pub inside : (q : ℕ) → q < n → get_or new (base + q) false ≡ precedes_itself t (base + q)
  pub below : (k : ℕ) → k < base → get_or new k false ≡ get_or old k false
  pub above : (k : ℕ) → base + n ≤ k → get_or new k false ≡ get_or old k false
