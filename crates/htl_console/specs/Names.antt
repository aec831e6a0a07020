-- The full names of items, or their numbers where there is no such item.
use Rattle.std.specs.Prelude.{ℕ, List, [], ◌++◌, slice_get, Some, None, codes, decimal}
use Rattle.htl_model.specs.{declared.parts.Inv.Inv, Lines.mode_name, Lines.module_name, Tables.Tables, Tables.mode_module}

abbrev pub task_name : Tables → ℕ → List ℕ
task_name t k = elim (slice_get t.tasks k) [ Some x ↦ x.name | None ↦ [] ]

-- `MODULE.MODE` of a mode
abbrev pub full_mode : Tables → ℕ → List ℕ
full_mode t m = module_name t (mode_module t m) ++ codes "." ++ mode_name t m

-- `MODULE.MODE.TASK` of an invocation
abbrev pub full_inv : Tables → Inv → List ℕ
full_inv t x = full_mode t x.mode ++ codes "." ++ task_name t x.task

abbrev pub inv_name : Tables → ℕ → List ℕ
inv_name t i = elim (slice_get t.invs i) [ Some x ↦ full_inv t x | None ↦ decimal i ]

abbrev pub mode_text : Tables → ℕ → List ℕ
mode_text t m = elim (slice_get t.modes m) [ Some x ↦ full_mode t m | None ↦ decimal m ]

abbrev pub module_text : Tables → ℕ → List ℕ
module_text t k = elim (slice_get t.modules k) [ Some x ↦ x.name | None ↦ decimal k ]
