use Rattle.std.proofs.Common.{arith}
use Rattle.htl_emach.proofs.FirstLists.{sums_more, count_more}
use Rattle.htl_emach.proofs.index.sums.Goals as goal

pub loop-k-preserved : goal.loop-k-preserved
loop-k-preserved c =
    let known = c.loop-k.invariant in
    let count = c.function_count-sum.ensures in (
      sums_more c.args.tasks.now c.loop-k.k c.loop-k.sum c.loop-k.list.items c.push.new.self.items c.in_ok-push.ensures.items known.0 known.1,
      count_more c.args.tasks.now c.loop-k.k c.loop-k.sum c.function_count-sum.result c.index-tasks-k.result c.loop-k-test.true c.index-tasks-k.is count.count known.1,
      omega (arith, known.2, count.few),
    )
