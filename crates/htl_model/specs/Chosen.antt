-- Which concrete invocation stands for an invocation where the modules are in these modes.
use Rattle.std.specs.Prelude.{◌≡◌, ℕ, zero, suc, Bool, true, false, ◌&&◌, cond, List, [], ◌∷◌, length, drop, get_or, slice_get, Option, Some, None}
use Rattle.htl_model.specs.{declared.parts.Inv.Inv, Selected.is_at, Selected.Runs, Selected.is_running, Tables.Tables, Tables.is_concrete}

-- invocation c stands for invocation k: it is k, a concrete one; or k is abstract, and c stands for an invocation that has
-- parent k and is in a mode that runs
pub data StandsFor (t : Tables) (modes : List (Option ℕ)) : ℕ → ℕ → Type 0 where
  itself : (k : ℕ) (i : Inv) → slice_get t.invs k ≡ Some i → is_concrete t i ≡ true → StandsFor t modes k k
  below : (k n c : ℕ) (i x : Inv) → slice_get t.invs k ≡ Some i → is_concrete t i ≡ false → slice_get t.invs n ≡ Some x → x.parent ≡ Some k → Runs t modes x.mode
      → StandsFor t modes n c → StandsFor t modes k c

-- what stands for an invocation is this, or none
abbrev pub IsChosen : Tables → List (Option ℕ) → ℕ → Option ℕ → Type 0
IsChosen t modes k o = (c : ℕ) → (o ≡ Some c → StandsFor t modes k c) × (StandsFor t modes k c → o ≡ Some c)

-- ---- the same as a function

abbrev pub is_child : Tables → List (Option ℕ) → ℕ → Inv → Bool
is_child t modes k x = is_at x.parent k && is_running t modes x.mode

-- the first invocation, numbered from n on, that has parent k and is in a mode that runs
abbrev pub child_from : Tables → List (Option ℕ) → ℕ → ℕ → List Inv → Option ℕ
child_from t modes k n [] = None
child_from t modes k n (x ∷ xs) = cond (is_child t modes k x) (Some n) (child_from t modes k (suc n) xs)

abbrev pub child : Tables → List (Option ℕ) → ℕ → Option ℕ
child t modes k = child_from t modes k 0 t.invs

-- an invocation itself, where it is concrete, or else what comes next
abbrev pub itself_or : Tables → ℕ → Option Inv → Option ℕ → Option ℕ
itself_or t k (Some i) next = cond (is_concrete t i) (Some k) next
itself_or t k None next = None

abbrev pub followed : (ℕ → Option ℕ) → Option ℕ → Option ℕ
followed f (Some n) = f n
followed f None = None

-- what stands for an invocation, at most so many refinements down
abbrev pub chosen_in : ℕ → Tables → List (Option ℕ) → ℕ → Option ℕ
chosen_in zero t modes k = None
chosen_in (suc steps) t modes k = itself_or t k (slice_get t.invs k) (followed (λ n. chosen_in steps t modes n) (child t modes k))

-- the concrete invocation that stands for an invocation; each refinement is of a module of a higher number
abbrev pub chosen : Tables → List (Option ℕ) → ℕ → Option ℕ
chosen t modes k = chosen_in (length t.modules) t modes k

-- ---- a table

-- the list has at the place of each invocation its first running child among the invocations from number n on
abbrev pub AreChildrenFrom : Tables → List (Option ℕ) → List (Option ℕ) → ℕ → Type 0
AreChildrenFrom t modes children n = (k : ℕ) → get_or children k None ≡ child_from t modes k n (drop n t.invs)

-- the list has at the place of each invocation its running child
abbrev pub AreChildren : Tables → List (Option ℕ) → List (Option ℕ) → Type 0
AreChildren t modes children = (k : ℕ) → get_or children k None ≡ child t modes k
