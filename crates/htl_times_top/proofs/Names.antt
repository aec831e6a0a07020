-- The name of an invocation, piece by piece.
use Rattle.std.proofs.Common.{◌≡◌, ◌++◌, ℕ, List, [], Option, Some, None, codes, decimal, refl, sym, ap, ◌∙◌, slice_get}
use Rattle.htl_console.specs.Names.{full_inv, inv_name, task_name}
use Rattle.htl_model.specs.{Lines.mode_name, Lines.module_name, Tables.Tables, Tables.mode_module, declared.parts.Inv.Inv}
use Rattle.htl_open.proofs.Putting.{behind}
use Rattle.htl_open.specs.Lines.{inv_task_name}

abbrev name_in : Tables → ℕ → Option Inv → List ℕ
name_in t i (Some x) = full_inv t x
name_in t i None = decimal i

abbrev task_in : Tables → Option Inv → List ℕ
task_in t (Some x) = task_name t x.task
task_in t None = []

pub named : (t : Tables) (i : ℕ) (x : Inv) → slice_get t.invs i ≡ Some x → (line end : List ℕ)
    → end ≡ line ++ module_name t (mode_module t x.mode) ++ codes "." ++ mode_name t x.mode ++ codes "." ++ inv_task_name t i → end ≡ line ++ inv_name t i
named t i x at line end is =
    let task : inv_task_name t i ≡ task_name t x.task = ap (task_in t) at in
    let name : inv_name t i ≡ full_inv t x = ap (name_in t i) at in
    let front = line ++ module_name t (mode_module t x.mode) ++ codes "." ++ mode_name t x.mode ++ codes "." in
    behind line _ _ front end (is ∙ ap (λ (z : List ℕ). front ++ z) task)
    (behind line _ _ _ front refl (behind line _ _ _ _ refl (behind line (module_name t (mode_module t x.mode)) (codes ".") _ _ refl refl)))
    ∙ ap (λ (z : List ℕ). line ++ z) (sym name)
