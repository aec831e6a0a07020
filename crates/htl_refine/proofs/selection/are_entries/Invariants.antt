use Rattle.std.proofs.Common.{◌≡◌, drop}
use Rattle.htl_model.specs.Selected.{are_entries}
use Rattle.htl_refine.proofs.selection.are_entries.Given as goal

abbrev pub invariant-loop-u : goal.invariant-loop-u
invariant-loop-u l = are_entries l.t l.modes l.u (drop l.u l.modules) ≡ are_entries l.t l.modes 0 l.modules
