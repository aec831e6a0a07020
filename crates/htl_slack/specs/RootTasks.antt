-- Tasks that are invoked in root modules.
use Rattle.std.specs.Prelude.{◌≡◌, ℕ, Bool, false, ◌&&◌, eqb, slice_get, Some, None}
use Rattle.htl_model.specs.{declared.parts.Inv.Inv, declared.parts.Module.Module, Frames.unit_period, Selections.is_root, Tables.Tables, Tables.mode_module}

-- an invocation of the task stands in a mode of a module without a parent
pub record IsRootTask (t : Tables) (task : ℕ) : Type 0 where
  pub number : ℕ
  pub inv : Inv
  pub at : slice_get t.invs number ≡ Some inv
  pub invoked : inv.task ≡ task
  pub owner : Module
  pub owned : slice_get t.modules (mode_module t inv.mode) ≡ Some owner
  pub root : owner.parent ≡ None

-- the module of a task; 0 where there is no such task
abbrev pub task_module : Tables → ℕ → ℕ
task_module t k = elim (slice_get t.tasks k) [ Some x ↦ x.«module» | None ↦ 0 ]

-- the period of the task's module
abbrev pub limit_of : Tables → ℕ → ℕ
limit_of t task = unit_period t (task_module t task)

-- ---- as the code finds them

abbrev pub is_root_at : Tables → ℕ → Bool
is_root_at t u = elim (slice_get t.modules u) [ Some x ↦ is_root x | None ↦ false ]

abbrev pub invokes : Tables → ℕ → Inv → Bool
invokes t task i = eqb i.task task && is_root_at t (mode_module t i.mode)
