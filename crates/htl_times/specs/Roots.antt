-- The root invocation in whose place an invocation can stand.
use Rattle.std.specs.Prelude.{◌≡◌, ◌↔◌, ℕ, zero, suc, List, length, slice_get, Option, Some, None}
use Rattle.htl_model.specs.{declared.parts.Inv.Inv, Chosen.StandsFor, FrameRules.KeptApart, Ranges.AreInRange, SecondWriters.parent_mode, Tables.Tables}

-- the parent of an invocation
abbrev pub inv_parent : Tables → ℕ → Option ℕ
inv_parent t i = elim (slice_get t.invs i) [ Some x ↦ x.parent | None ↦ None ]

-- the first one without a parent, from an invocation upwards; so many are looked at, at most
abbrev pub root_in : ℕ → Tables → ℕ → Option ℕ
root_in zero t i = None
root_in (suc n) t i = elim (inv_parent t i) [ Some p ↦ root_in n t p | None ↦ Some i ]

-- each refinement is of a module of a higher number
abbrev pub root_of : Tables → ℕ → Option ℕ
root_of t i = root_in (length t.modules) t i

-- what is above an invocation: an invocation of a root module
pub record HasRoot (t : Tables) (i : ℕ) : Type 0 where
  pub root : ℕ
  pub inv : Inv
  pub is : root_of t i ≡ Some root
  pub at : slice_get t.invs root ≡ Some inv
  pub of_root_module : parent_mode t inv.mode ≡ None

-- where no form rule is broken, each invocation has a root invocation
abbrev pub EachHasRoot : Type 0
EachHasRoot = (t : Tables) (i : ℕ) (x : Inv) → AreInRange t → KeptApart t 16 → slice_get t.invs i ≡ Some x → HasRoot t i

-- it is the one in whose place the invocation stands, whatever modes run
abbrev pub StandsWithinRoot : Type 0
StandsWithinRoot =
    (t : Tables) (modes : List (Option ℕ)) (k c : ℕ) (x : Inv) → AreInRange t → KeptApart t 16 → slice_get t.invs k ≡ Some x → parent_mode t x.mode ≡ None → StandsFor t modes k c → root_of t c ≡ Some k

-- an invocation has no parent exactly where it is of a root module
abbrev pub ParentlessOfRoots : Type 0
ParentlessOfRoots = (t : Tables) (i : ℕ) (x : Inv) → AreInRange t → KeptApart t 16 → slice_get t.invs i ≡ Some x → x.parent ≡ None ↔ parent_mode t x.mode ≡ None
