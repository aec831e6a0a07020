use Rattle.std.proofs.Common.{◌<◌, ℕ, get_or}
use Rattle.htl_model.specs.Selected.{IsSelection}
use Rattle.htl_refine.specs.declared.selection.Selection.{Selection}
use Rattle.htl_part_tests.proofs.schedules.refine_tests.are_selections.Given as goal

abbrev pub invariant-loop-k : goal.invariant-loop-k
invariant-loop-k l = (n : ℕ) (d : Selection) → n < l.k → IsSelection l.t (get_or l.sels n d).modes
