use Rattle.htl_compile.proofs.Words.{map, refl, ap, arith, tasks_of, place_behind_task, at_end, fun_of}
use Rattle.htl_compile.proofs.FunctionLaws.{typed_none, typed_on, typed_more, typed_to, codes_past, codes_to}
use Rattle.htl_compile.proofs.functions.push_tasks.Goals as goal

pub overflow_add-id : goal.overflow_add-id
overflow_add-id c = let next = place_behind_task c.args.t.now _ c.as_slice-tasks.result.now c.loop-k.k c.loop-k.id c.function_count.result c.index-tasks-k.result c.parts.ensures.value c.as_slice-tasks.ensures c.parts.ensures.ranges c.loop-k-test.true c.index-tasks-k.is c.loop-k.invariant.id c.function_count.ensures.count in omega (arith, next.1)

pub loop-k-preserved : goal.loop-k-preserved
loop-k-preserved c =
    let tasks = tasks_of c.args.t.now _ c.as_slice-tasks.result.now c.parts.ensures.value c.as_slice-tasks.ensures in
    record {
      id = (place_behind_task c.args.t.now _ c.as_slice-tasks.result.now c.loop-k.k c.loop-k.id c.function_count.result c.index-tasks-k.result c.parts.ensures.value c.as_slice-tasks.ensures c.parts.ensures.ranges c.loop-k-test.true c.index-tasks-k.is c.loop-k.invariant.id c.function_count.ensures.count).0;
      codes = codes_past c.args.t.now c.as_slice-tasks.result.now c.push_outputs.new.codes.items c.loop-k.k c.loop-k.id c.function_count.result c.index-tasks-k.result tasks c.loop-k-test.true c.index-tasks-k.is c.function_count.ensures.count c.in-Ok.ensures.codes;
      typed = typed_more c.args.t.now c.as_slice-tasks.result.now c.loop-k.k c.loop-k.id c.function_count.result c.index-tasks-k.result tasks c.loop-k-test.true c.index-tasks-k.is c.function_count.ensures.count c.loop-k.invariant.typed c.in-Ok.ensures.typed;
    }

pub returns-clause-codes : goal.returns-clause-codes
returns-clause-codes c =
    let tasks = tasks_of c.args.t.now _ c.as_slice-tasks.result.now c.parts.ensures.value c.as_slice-tasks.ensures in
    let end = at_end c.args.t.now c.as_slice-tasks.result.now c.loop-k.id c.loop-k.k tasks c.loop-k.invariant.id c.loop-k.auto.k-end c.loop-k-test.false in
    codes_to c.args.t.now c.loop-k.codes.items c.loop-k.id _ end c.loop-k.invariant.codes

pub returns-clause-typed : goal.returns-clause-typed
returns-clause-typed c =
    let tasks = tasks_of c.args.t.now _ c.as_slice-tasks.result.now c.parts.ensures.value c.as_slice-tasks.ensures in
    let end = at_end c.args.t.now c.as_slice-tasks.result.now c.loop-k.id c.loop-k.k tasks c.loop-k.invariant.id c.loop-k.auto.k-end c.loop-k-test.false in
    typed_to c.args.t.now 0 c.loop-k.id _ end c.loop-k.invariant.typed

pub loop-k-init : goal.loop-k-init
loop-k-init c = record { id = refl; codes = ap (map fun_of) c.requires.empty; typed = typed_none c.args.t.now 0 0 refl }

pub returns-in-Err-clause-fault : goal.returns-in-Err-clause-fault
returns-in-Err-clause-fault c =
    let fault = c.in-Err.ensures.fault in
    record { place = fault.place; behind = omega arith; here = fault.here; first = typed_on c.args.t.now 0 c.loop-k.id fault.place c.loop-k.invariant.typed fault.first }
