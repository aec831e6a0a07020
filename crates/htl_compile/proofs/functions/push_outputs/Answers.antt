use Rattle.std.proofs.Common.{◌≡◌, ◌+◌, length, get_or, slice_get, List, Some, sym, ◌∙◌, ap, arith}
use Rattle.htl_base.specs.declared.Ty.TheVariants as ty
use Rattle.htl_compile.proofs.Words.{Ty, output_type, count_at, tasks_of, output_at, outputs_count, concrete_count}
use Rattle.htl_compile.proofs.FunctionLaws.{abstract_count, codes_to, typed_further, typed_none, typed_to}
use Rattle.htl_compile.proofs.functions.push_outputs.Goals as goal

pub overflow_add-first : goal.overflow_add-first
overflow_add-first c =
    let tasks = tasks_of c.args.t.now _ c.as_slice.result.now c.parts.ensures.value c.as_slice.ensures in
    omega (arith, (output_at c.args.t.now c.as_slice.result.now c.args.task c.args.first c.loop-j.j c.index-as_slice-task.result c.as_slice-outputs.result.now ty.Int c.parts.ensures.ranges tasks c.requires.task c.index-as_slice-task.is c.requires.first c.if-task.false c.as_slice-outputs.ensures c.loop-j-test.true).few)

pub push_code-requires-clause-within : goal.push_code-requires-clause-within
push_code-requires-clause-within c =
    let tasks = tasks_of c.args.t.now _ c.as_slice.result.now c.parts.ensures.value c.as_slice.ensures in
    (output_at c.args.t.now c.as_slice.result.now c.args.task c.args.first c.loop-j.j c.index-as_slice-task.result c.as_slice-outputs.result.now ty.Int c.parts.ensures.ranges tasks c.requires.task c.index-as_slice-task.is c.requires.first c.if-task.false c.as_slice-outputs.ensures c.loop-j-test.true).within

pub push_code-requires-clause-types : goal.push_code-requires-clause-types
push_code-requires-clause-types c =
    let tasks = tasks_of c.args.t.now _ c.as_slice.result.now c.parts.ensures.value c.as_slice.ensures in
    (output_at c.args.t.now c.as_slice.result.now c.args.task c.args.first c.loop-j.j c.index-as_slice-task.result c.as_slice-outputs.result.now ty.Int c.parts.ensures.ranges tasks c.requires.task c.index-as_slice-task.is c.requires.first c.if-task.false c.as_slice-outputs.ensures c.loop-j-test.true).types
    ∙ ap (λ (l : List Ty). Some (output_type l (get_or c.as_slice-outputs.result.now c.loop-j.j ty.Int))) (sym c.as_slice-in-loop-j.ensures)

pub returns-clause-codes : goal.returns-clause-codes
returns-clause-codes c =
    let tasks = tasks_of c.args.t.now _ c.as_slice.result.now c.parts.ensures.value c.as_slice.ensures in
    let count : count_at _ ≡ length c.index-as_slice-task.result.outputs = outputs_count c.args.t.now c.as_slice.result.now c.args.task c.index-as_slice-task.result tasks c.requires.task c.index-as_slice-task.is ∙ concrete_count c.index-as_slice-task.result c.if-task.false in
    codes_to c.args.t.now c.loop-j.codes.items (c.args.first + c.loop-j.j) (c.args.first + count_at (slice_get c.args.t.now.tasks c.args.task)) (omega (arith, count, ap length c.as_slice-outputs.ensures, c.loop-j-test.false, c.loop-j.auto.j-end)) c.loop-j.invariant.codes

pub returns-clause-typed : goal.returns-clause-typed
returns-clause-typed c =
    let tasks = tasks_of c.args.t.now _ c.as_slice.result.now c.parts.ensures.value c.as_slice.ensures in
    let count : count_at _ ≡ length c.index-as_slice-task.result.outputs = outputs_count c.args.t.now c.as_slice.result.now c.args.task c.index-as_slice-task.result tasks c.requires.task c.index-as_slice-task.is ∙ concrete_count c.index-as_slice-task.result c.if-task.false in
    typed_to c.args.t.now c.args.first (c.args.first + c.loop-j.j) (c.args.first + count_at (slice_get c.args.t.now.tasks c.args.task)) (omega (arith, count, ap length c.as_slice-outputs.ensures, c.loop-j-test.false, c.loop-j.auto.j-end)) c.loop-j.invariant.typed

pub returns-then-task-clause-codes : goal.returns-then-task-clause-codes
returns-then-task-clause-codes c =
    let tasks = tasks_of c.args.t.now _ c.as_slice.result.now c.parts.ensures.value c.as_slice.ensures in
    let count : count_at _ ≡ 0 = outputs_count c.args.t.now c.as_slice.result.now c.args.task c.index-as_slice-task.result tasks c.requires.task c.index-as_slice-task.is ∙ abstract_count c.index-as_slice-task.result c.if-task.true in
    codes_to c.args.t.now c.args.codes.now.items c.args.first (c.args.first + count_at (slice_get c.args.t.now.tasks c.args.task)) (omega (arith, count)) c.requires.before

pub returns-then-task-clause-typed : goal.returns-then-task-clause-typed
returns-then-task-clause-typed c =
    let tasks = tasks_of c.args.t.now _ c.as_slice.result.now c.parts.ensures.value c.as_slice.ensures in
    let count : count_at _ ≡ 0 = outputs_count c.args.t.now c.as_slice.result.now c.args.task c.index-as_slice-task.result tasks c.requires.task c.index-as_slice-task.is ∙ abstract_count c.index-as_slice-task.result c.if-task.true in
    typed_none c.args.t.now c.args.first (c.args.first + count_at (slice_get c.args.t.now.tasks c.args.task)) (omega (arith, count))

pub loop-j-init : goal.loop-j-init
loop-j-init c = record {
  codes = codes_to c.args.t.now c.args.codes.now.items c.args.first (c.args.first + 0) (omega arith) c.requires.before;
  typed = typed_none c.args.t.now c.args.first (c.args.first + 0) (omega arith);
}

pub loop-j-preserved : goal.loop-j-preserved
loop-j-preserved c =
    let id = c.args.first + c.loop-j.j in
    record {
      codes = codes_to c.args.t.now c.push_code.new.codes.items (id + 1) (c.args.first + (c.loop-j.j + 1)) (omega arith) c.in-Ok.ensures.codes;
      typed = typed_further c.args.t.now c.args.first id (c.args.first + (c.loop-j.j + 1)) (omega arith) c.loop-j.invariant.typed c.in-Ok.ensures.typed;
    }

pub returns-in-Err-clause-fault : goal.returns-in-Err-clause-fault
returns-in-Err-clause-fault c =
    record { place = c.args.first + c.loop-j.j; behind = omega arith; here = c.in-Err.ensures.fault; first = c.loop-j.invariant.typed }
