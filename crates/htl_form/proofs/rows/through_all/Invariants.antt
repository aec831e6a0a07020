use Rattle.std.proofs.Common.{◌≡◌, length}
use Rattle.htl_form.specs.Rows.{through_all}
use Rattle.htl_form.proofs.rows.through_all.Given as goal

abbrev pub invariant-loop-k : goal.invariant-loop-k
invariant-loop-k l = record { rows : l.rows ≡ through_all l.k l.initial.rows; len : length l.rows ≡ length l.initial.rows }
