use Rattle.std.proofs.Common.{◌++◌, ◌∷◌, [], ap, ◌∙◌}
use Rattle.htl_patch.proofs.{Words.End, Words.placed_end, FunctionLists.map_more}
use Rattle.htl_patch.proofs.mode_items.copied_ends.Goals as goal

pub loop-k-preserved : goal.loop-k-preserved
loop-k-preserved c =
    map_more (placed_end c.args.ports.now c.args.before) c.args.ends.now _ c.loop-k.k c.loop-k.found.items c.push.new.self.items [] c.loop-k-test.true
    (c.in_ok-push.ensures.items ∙ ap (λ (x : End). c.loop-k.found.items ++ x ∷ []) c.copied_end.ensures) c.loop-k.invariant
