use Rattle.std.proofs.Common.{◌≡◌, drop, fold}
use Rattle.htl_names.proofs.Words.{with_refinement}
use Rattle.htl_names.proofs.programs.note_refinements.Given as goal

abbrev pub invariant-loop-k : goal.invariant-loop-k
invariant-loop-k l = fold with_refinement l.into.items (drop l.k l.row) ≡ fold with_refinement l.initial.into.items l.row
