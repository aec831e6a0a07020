use Rattle.htl_patch.proofs.{Words.arith, NewItems.refined_small}
use Rattle.htl_patch.proofs.unit_items.refined_parent.Goals as goal

pub overflow_cast-result : goal.overflow_cast-result
overflow_cast-result c =
    let g = c.args.g.now in
    let few = refined_small g c.keeps_ranges.ensures.host c.keeps_ranges.ensures.donor c.args.parent c.in-Some.k c.requires.patched_mode c.requires.parent c.in-Some.is in
    omega (arith, few, c.refined.ensures)
