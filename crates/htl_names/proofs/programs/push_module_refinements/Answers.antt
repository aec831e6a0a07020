use Rattle.std.proofs.Common.{◌≡◌, ◌++◌, ◌∙◌, ap, sym, append-nil, map, ℕ, List, Option, Some, None}
use Rattle.htl_names.proofs.{Words.mode_of, Words.flat_map_at, Words.Refinement, Words.mode_refinement, Words.refinement_by, Walking.next_item}
use Rattle.htl_names.proofs.programs.push_module_refinements.Goals as goal
use Rattle.htl_names.proofs.programs.push_module_refinements.Goals.{in-Some+in_ok-push, in_default}

pub loop-k-preserved : goal.loop-k-preserved
loop-k-preserved c =
    let modes = c.as_slice-modes.result.now in
    let refinements = mode_refinement c.args.symbols.now c.args.program c.args.«module» in
    let old = c.loop-k.into.items in
    let with : Option ℕ → List Refinement = λ o. old ++ refinement_by (record { program = c.args.program; «module» = c.args.«module»; mode = c.loop-k.k }) o in
    let next = λ (o : Option ℕ) (is : c.refining_program.result ≡ o) (grown : c.match-refining_program.into.items ≡ with o).
    next_item refinements mode_of modes c.loop-k.k c.index-modes-k.result old c.match-refining_program.into.items (c.args.into.now.items ++ flat_map_at refinements 0 (map mode_of modes))
    c.loop-k-test.true c.index-modes-k.is (grown ∙ ap with (sym is ∙ c.refining_program.ensures)) c.loop-k.invariant in
    elim c.match-refining_program.branch [
      | in-Some+in_ok-push w ↦ next (Some w.in-Some.q) w.in-Some.is (ap (λ v. v.items) w.into-is ∙ w.in_ok-push.ensures.items)
      | in_default w ↦ next None w.in_default.is (ap (λ v. v.items) w.into-is ∙ sym (append-nil old))
    ]
