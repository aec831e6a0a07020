use Rattle.std.proofs.Common.{ap, ◌∙◌}
use Rattle.htl_emach.specs.Contents.{input_row, zeros}
use Rattle.htl_emach.proofs.FirstLists.{rows_more}
use Rattle.htl_emach.proofs.first_world.input_rows.Goals as goal

pub loop-k-preserved : goal.loop-k-preserved
loop-k-preserved c =
    rows_more (input_row c.args.t.now) c.loop-k.rows.items c.push.new.self.items c.in_ok-row.row c.as_slice-invs.result.now c.loop-k.k c.index-invs-k.result c.loop-k-test.true c.in_ok-push.ensures.items
    (c.in_ok-row.ensures.items_if_clones_equal (λ x same. same) ∙ ap zeros c.input_places.ensures) c.loop-k.invariant
