-- A schedule as a list of slices, in any order.
use Rattle.std.specs.Prelude.{◌≡◌, ℕ, ◌+◌, ◌-◌, ◌<◌, ◌≤◌, Bool, true, false, cond, ◌&&◌, ◌||◌, leb, ltb, eqb, pos, ◌≤ℤ◌, List, [], ◌∷◌, ◌⊎◌}
use Rattle.htl_edf.specs.{Windows.Windows, Tight.Jobs, Edf.Slice}

-- P holds of each slice
abbrev pub Each : (Slice → Type 0) → List Slice → Type 0
Each P [] = Unit {0}
Each P (s ∷ ss) = P s × Each P ss

abbrev pub Apart : Slice → Slice → Type 0
Apart s r = (s.end ≤ r.start) ⊎ (r.end ≤ s.start)

abbrev pub DoNotOverlap : List Slice → Type 0
DoNotOverlap [] = Unit {0}
DoNotOverlap (s ∷ ss) = Each (Apart s) ss × DoNotOverlap ss

-- the ticks of position q
abbrev pub ticks_of : List Slice → ℕ → ℕ
ticks_of [] q = 0
ticks_of (s ∷ ss) q = cond (eqb s.position q) (s.end - s.start) 0 + ticks_of ss q

-- whether tick x of the slice, or of one of the slices, goes to q
abbrev pub covers : Slice → ℕ → ℕ → Bool
covers s x q = eqb s.position q && (leb s.start x && ltb x s.end)

abbrev pub on_slices : List Slice → ℕ → ℕ → Bool
on_slices [] x q = false
on_slices (s ∷ ss) x q = covers s x q || on_slices ss x q

-- each slice has a tick
abbrev pub HaveTicks : List Slice → Type 0
HaveTicks ss = Each (λ s. s.start < s.end) ss

-- the slices give each position its worst case, in the window that v has for it and after its predecessors
pub record SlicesMeetIn (j : Jobs) (v : Windows) (ss : List Slice) : Type 0 where
  pub apart : DoNotOverlap ss
  pub done : (q : ℕ) → q < j.count → ticks_of ss q ≡ j.worst q
  pub within : Each (λ s. s.position < j.count → (v.from s.position ≤ s.start) × (pos s.end ≤ℤ v.due s.position)) ss
  pub after : Each (λ s. Each (λ r. r.position < j.count → j.before r.position s.position ≡ true → r.end ≤ s.start) ss) ss

-- the same in the jobs' own windows
pub record SlicesMeet (j : Jobs) (ss : List Slice) : Type 0 where
  pub apart : DoNotOverlap ss
  pub done : (q : ℕ) → q < j.count → ticks_of ss q ≡ j.worst q
  pub within : Each (λ s. s.position < j.count → (j.release s.position ≤ s.start) × (s.end ≤ j.end s.position)) ss
  pub after : Each (λ s. Each (λ r. r.position < j.count → j.before r.position s.position ≡ true → r.end ≤ s.start) ss) ss
