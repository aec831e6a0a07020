-- Earliest deadline first: every tick is asked, and each maximal interval in which one position runs is a slice.
use Rattle.std.specs.Prelude.{ℕ, zero, suc, ◌-◌, Bool, false, cond, ◌&&◌, leb, ltb, eqb, Option, Some, None, List, [], ◌∷◌, ℤ, int_lt}
use Rattle.htl_edf.specs.{Sums.bit, Windows.Windows}

-- of the position taken so far, and position n after it
abbrev pub better : (ℕ → ℤ) → Option ℕ → ℕ → Option ℕ
better due None n = Some n
better due (Some p) n = cond (int_lt (due n) (due p)) (Some n) (Some p)

-- of the positions below n that pass, the one with the least end; of several the lowest
abbrev pub earliest : (ℕ → Bool) → (ℕ → ℤ) → ℕ → Option ℕ
earliest ready due zero = None
earliest ready due (suc n) = cond (ready n) (better due (earliest ready due n) n) (earliest ready due n)

-- the position that runs at tick t, where l tells the ticks left
abbrev pub choice : Windows → (ℕ → ℕ) → ℕ → Option ℕ
choice v l t = earliest (λ q. leb (v.from q) t && ltb 0 (l q)) v.due v.count

-- whether it is q that runs
abbrev pub runs : Option ℕ → ℕ → Bool
runs None q = false
runs (Some p) q = eqb p q

-- the ticks that each position has left at t
unfoldable pub left : Windows → ℕ → ℕ → ℕ
left v zero q = v.worst q
left v (suc t) q = left v t q - bit (runs (choice v (left v t) t) q)

-- the position that runs at t, if any
unfoldable pub edf : Windows → ℕ → Option ℕ
edf v t = choice v (left v t) t

-- whether tick t is given to position q
unfoldable pub edf_on : Windows → ℕ → ℕ → Bool
edf_on v t q = runs (edf v t) q

-- ---- slices

-- a position runs from `start` to `end`
pub record Slice : Type 0 where
  pub position : ℕ
  pub start : ℕ
  pub end : ℕ

-- one more tick, t, at the end of slices that are listed last first
abbrev pub longer : Option ℕ → ℕ → List Slice → List Slice
longer None t ss = ss
longer (Some p) t [] = record { position = p; start = t; end = suc t } ∷ []
longer (Some p) t (s ∷ ss) = cond (eqb p s.position && eqb s.end t) (record s { end = suc t } ∷ ss) (record { position = p; start = t; end = suc t } ∷ (s ∷ ss))

-- position p from t to e: it lengthens the last slice where that is p's and ends at t
abbrev pub run_for : ℕ → ℕ → ℕ → List Slice → List Slice
run_for p t e [] = record { position = p; start = t; end = e } ∷ []
run_for p t e (s ∷ ss) = cond (eqb p s.position && eqb s.end t) (record s { end = e } ∷ ss) (record { position = p; start = t; end = e } ∷ (s ∷ ss))

-- the maximal slices before tick t, last first
unfoldable pub maximal_slices : (ℕ → Option ℕ) → ℕ → List Slice
maximal_slices run zero = []
maximal_slices run (suc t) = longer (run t) t (maximal_slices run t)
