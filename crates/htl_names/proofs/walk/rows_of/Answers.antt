use Rattle.htl_names.proofs.{Words.drop_more, Words.common_steps, Words.arith, Words.length-append, Walking.length-map_at}
use Rattle.htl_names.proofs.walk.rows_of.Goals as goal

pub loop-p-preserved : goal.loop-p-preserved
loop-p-preserved c =
    let rest = drop_more c.as_slice-programs.result.now c.loop-p.p c.index-programs-p.result c.loop-p-test.true in
    let going = c.loop-p.invariant.going in
    let grown = c.in_ok-add_program.ensures.rows in
    let is = c.index-programs-p.is in
    record { going = grind (arith, common_steps); few = grind (arith, length-append, length-map_at) }
