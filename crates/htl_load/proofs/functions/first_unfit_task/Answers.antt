use Rattle.htl_load.proofs.{Words.arith, Words.tasks_of, Words.place_behind_task, Words.at_end, UnfitLaws.fit_more, UnfitLaws.fit_to}
use Rattle.htl_load.proofs.functions.first_unfit_task.Goals as goal

pub overflow_add-id : goal.overflow_add-id
overflow_add-id c = let next = place_behind_task c.args.t.now _ c.as_slice-tasks.result.now c.loop-k.k c.loop-k.id c.function_count.result c.index-tasks-k.result c.parts.ensures.value c.as_slice-tasks.ensures c.parts.ensures.ranges c.loop-k-test.true c.index-tasks-k.is c.loop-k.invariant.id c.function_count.ensures.count in omega (arith, next.1)

pub loop-k-preserved : goal.loop-k-preserved
loop-k-preserved c =
    let tasks = tasks_of c.args.t.now _ c.as_slice-tasks.result.now c.parts.ensures.value c.as_slice-tasks.ensures in
    record {
      id = (place_behind_task c.args.t.now _ c.as_slice-tasks.result.now c.loop-k.k c.loop-k.id c.function_count.result c.index-tasks-k.result c.parts.ensures.value c.as_slice-tasks.ensures c.parts.ensures.ranges c.loop-k-test.true c.index-tasks-k.is c.loop-k.invariant.id c.function_count.ensures.count).0;
      fit = fit_more c.args.t.now c.as_slice-tasks.result.now c.loop-k.k c.loop-k.id c.function_count.result c.index-tasks-k.result tasks c.loop-k-test.true c.index-tasks-k.is c.function_count.ensures.count c.loop-k.invariant.fit c.in_default.ensures;
    }

pub returns : goal.returns
returns c =
    let tasks = tasks_of c.args.t.now _ c.as_slice-tasks.result.now c.parts.ensures.value c.as_slice-tasks.ensures in
    let end = at_end c.args.t.now c.as_slice-tasks.result.now c.loop-k.id c.loop-k.k tasks c.loop-k.invariant.id c.loop-k.auto.k-end c.loop-k-test.false in
    fit_to c.args.t.now 0 c.loop-k.id _ end c.loop-k.invariant.fit
