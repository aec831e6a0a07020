use Rattle.std.proofs.Common.{◌<◌, length, sym, arith}
use Rattle.htl_platform.proofs.WorstLaws.{tasks_with-none, tasks_with-put}
use Rattle.htl_platform.proofs.applying.tasks_with.Goals as goal

pub loop-k-init : goal.loop-k-init
loop-k-init c = sym (tasks_with-none c.args.tasks.items)

pub loop-k-preserved : goal.loop-k-preserved
loop-k-preserved c =
    let below : c.loop-k.k < length c.args.tasks.items = omega (arith, c.loop-k-test.true, c.len-k-end.ensures) in
    tasks_with-put c.loop-k.k c.index_mut.result.now c.loop-k.tasks.items c.args.tasks.items c.args.worst.now c.loop-k.invariant c.index_mut.ensures.value
    below (omega (arith, below, c.requires))
