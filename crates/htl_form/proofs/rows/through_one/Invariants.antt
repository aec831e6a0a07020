use Rattle.std.proofs.Common.{◌≡◌, ◌++◌, map, take, drop}
use Rattle.htl_form.specs.Rows.{widened}
use Rattle.htl_form.proofs.rows.through_one.Given as goal

abbrev pub invariant-loop-i : goal.invariant-loop-i
invariant-loop-i l = l.rows ≡ map (widened l.other l.k) (take l.i l.initial.rows) ++ drop l.i l.initial.rows
