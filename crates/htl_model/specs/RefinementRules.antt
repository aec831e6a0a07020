-- The rules on refinement: what stands for an abstract invocation asks for no more than it.
use Rattle.std.specs.Prelude.{◌≡◌, ◌≢◌, ◌≤◌, ◌<◌, ◌⊎◌, ℕ, false, Option, Some, None, slice_get}
use Rattle.htl_model.specs.{declared.parts.Inv.Inv, declared.parts.Module.Module, declared.parts.End.End, Tables.Tables, Tables.mode_module, Tables.is_concrete, Tables.task_worst, Tables.release, Tables.window_end}
use Rattle.htl_model.specs.declared.parts.End.TheVariants as E
use Rattle.htl_model.specs.{PortOrder.Leads, PortOrder.feeds, SecondWriters.parent_mode}

-- some module refines the mode
pub record IsRefined (t : Tables) (m : ℕ) : Type 0 where
  pub number : ℕ
  pub «module» : Module
  pub at : slice_get t.modules number ≡ Some «module»
  pub refines : «module».parent ≡ Some m

-- 13: an abstract invocation stands in a mode that nothing refines
abbrev pub StandsUnrefined : Tables → Inv → ℕ → ℕ → Type 0
StandsUnrefined t i have need = (have ≡ 0) × (need ≡ 1) × (is_concrete t i ≡ false) × (IsRefined t i.mode → ⊥)

-- invocation p is an abstract one of mode m
pub record IsAbstractIn (t : Tables) (m p : ℕ) : Type 0 where
  pub parent : Inv
  pub at : slice_get t.invs p ≡ Some parent
  pub abstract : is_concrete t parent ≡ false
  pub mode : parent.mode ≡ m

-- 14: the invocation of a refinement of mode m has no parent, or another than an abstract invocation of m
abbrev pub ParentAstray : Tables → ℕ → Option ℕ → ℕ → Type 0
ParentAstray t m None have = have ≡ 0
ParentAstray t m (Some p) have = (have ≡ 2) × (IsAbstractIn t m p → ⊥)

-- 14: the same, by whether the module is a root module; in one a parent is another
abbrev pub ParentFault : Tables → Option ℕ → Option ℕ → ℕ → ℕ → Type 0
ParentFault t (Some m) parent have need = (need ≡ 1) × ParentAstray t m parent have
ParentFault t None (Some p) have need = (need ≡ 0) × (have ≡ 2)
ParentFault t None None have need = ⊥

abbrev pub ParentWrong : Tables → Inv → ℕ → ℕ → Type 0
ParentWrong t i have need = ParentFault t (parent_mode t i.mode) i.parent have need

-- invocation l comes before invocation k = i, has the same parent p, and stands in another module or in the same mode
pub record SharesParent (t : Tables) (k : ℕ) (i : Inv) (p l : ℕ) : Type 0 where
  pub earlier : l < k
  pub other : Inv
  pub at : slice_get t.invs l ≡ Some other
  pub parent : other.parent ≡ Some p
  pub clash : (mode_module t other.mode ≢ mode_module t i.mode) ⊎ (other.mode ≡ i.mode)

-- 15: an earlier invocation shares the parent wrongly; the least such, and the parent, are told
pub record SecondChild (t : Tables) (k : ℕ) (i : Inv) (have need : ℕ) : Type 0 where
  pub parent : i.parent ≡ Some need
  pub shares : SharesParent t k i need have
  pub least : (l : ℕ) → l < have → SharesParent t k i need l → ⊥

-- 16: i asks for more than its parent y: it is released later; or not so, and its window ends earlier; or neither, and it may run longer
abbrev pub AsksMore : Tables → Inv → Inv → ℕ → ℕ → Type 0
AsksMore t i y have need =
    ((have ≡ release t i) × (need ≡ release t y) × (need < have))
    ⊎ ((release t i ≤ release t y) × (have ≡ window_end t i) × (need ≡ window_end t y) × (have < need))
    ⊎ ((release t i ≤ release t y) × (window_end t y ≤ window_end t i) × (have ≡ task_worst t i.task) × (need ≡ task_worst t y.task) × (need < have))

abbrev pub Exceeds : Tables → Inv → ℕ → ℕ → Type 0
Exceeds t i have need = (p : ℕ) × (i.parent ≡ Some p) × (y : Inv) × (slice_get t.invs p ≡ Some y) × AsksMore t i y have need

-- invocation l writes the port, and has parent a
pub record IsWriterOf (t : Tables) (p a : ℕ) : Type 0 where
  pub number : ℕ
  pub writer : Inv
  pub at : slice_get t.invs number ≡ Some writer
  pub place : ℕ
  pub writes : slice_get writer.writes place ≡ Some (E.Port p)
  pub parent : writer.parent ≡ Some a

-- 16: a child reads a port of a child whose parent doesn't come before its own by ports
abbrev pub Unordered : Tables → Inv → End → ℕ → ℕ → Type 0
Unordered t i (E.Comm c n) have need = ⊥
Unordered t i (E.Port p) have need = (i.parent ≡ Some need) × IsWriterOf t p have × (Leads (feeds t) have need → ⊥)
