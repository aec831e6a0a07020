use Rattle.std.proofs.Common.{◌≡◌, ◌<◌, ℕ, List}
use Rattle.htl_names.proofs.Words.{PlainProgram, symbols_of, AreRefinedModes, IsMisplaced, refinement_rows}
use Rattle.htl_names.proofs.programs.first_misplaced.Given as goal

abbrev pub invariant-loop-p : goal.invariant-loop-p
invariant-loop-p l =
    (ps : List PlainProgram) → l.graph.rows.items ≡ refinement_rows (symbols_of ps) ps → AreRefinedModes ps l.graph.refined.items
    → (q : ℕ) → q < l.p → IsMisplaced (symbols_of ps) ps q → ⊥
