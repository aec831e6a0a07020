use Rattle.std.proofs.Common.{◌≡◌, ◌∙◌, ap, arith, fold, length, replicate}
use Rattle.htl_names.proofs.{Words.common_steps, Words.tree_of, Words.with_refinement, Words.refines_none, Words.refinements, Words.refinement_rows, Searches.refined_table}
use Rattle.htl_names.proofs.programs.program_graph.Goals as goal

pub returns : goal.returns
returns c =
    let ps = tree_of c.args.tree.now in
    let rows : c.loop-k.rows.items ≡ refinement_rows c.args.symbols.now ps = grind (arith, common_steps) in
    let refined : c.loop-k.refined.items ≡ fold with_refinement (replicate (length ps) refines_none) (refinements c.args.symbols.now ps) = grind (arith, common_steps) in
    record {
      rows = rows ∙ ap (λ s. refinement_rows s ps) c.requires;
      refined = refined_table ps c.loop-k.refined.items (refined ∙ ap (λ s. fold with_refinement (replicate (length ps) refines_none) (refinements s ps)) c.requires);
    }
