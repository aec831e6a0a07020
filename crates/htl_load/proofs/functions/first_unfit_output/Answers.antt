use Rattle.std.proofs.Common.{◌≡◌, ◌+◌, length, get_or, List, Some, sym, ◌∙◌, ap, arith}
use Rattle.htl_load.proofs.{Words.Ty, Words.output_type, Words.count_at, Words.tasks_of, Words.output_at, Words.outputs_count, Words.concrete_count, UnfitLaws.fit_to}
use Rattle.htl_base.specs.declared.Ty.TheVariants as ty
use Rattle.htl_load.proofs.functions.first_unfit_output.Goals as goal

pub overflow_add-id : goal.overflow_add-id
overflow_add-id c =
    let tasks = tasks_of c.args.t.now _ c.as_slice.result.now c.parts.ensures.value c.as_slice.ensures in
    omega (arith, (output_at c.args.t.now c.as_slice.result.now c.args.task c.args.first c.loop-j.j c.index-as_slice-task.result c.as_slice-outputs.result.now ty.Int c.parts.ensures.ranges tasks c.requires.task c.index-as_slice-task.is c.requires.first c.if-task.false c.as_slice-outputs.ensures c.loop-j-test.true).few)

pub fits_at-requires-clause-within : goal.fits_at-requires-clause-within
fits_at-requires-clause-within c =
    let tasks = tasks_of c.args.t.now _ c.as_slice.result.now c.parts.ensures.value c.as_slice.ensures in
    (output_at c.args.t.now c.as_slice.result.now c.args.task c.args.first c.loop-j.j c.index-as_slice-task.result c.as_slice-outputs.result.now ty.Int c.parts.ensures.ranges tasks c.requires.task c.index-as_slice-task.is c.requires.first c.if-task.false c.as_slice-outputs.ensures c.loop-j-test.true).within

pub fits_at-requires-clause-types : goal.fits_at-requires-clause-types
fits_at-requires-clause-types c =
    let tasks = tasks_of c.args.t.now _ c.as_slice.result.now c.parts.ensures.value c.as_slice.ensures in
    (output_at c.args.t.now c.as_slice.result.now c.args.task c.args.first c.loop-j.j c.index-as_slice-task.result c.as_slice-outputs.result.now ty.Int c.parts.ensures.ranges tasks c.requires.task c.index-as_slice-task.is c.requires.first c.if-task.false c.as_slice-outputs.ensures c.loop-j-test.true).types
    ∙ ap (λ (l : List Ty). Some (output_type l (get_or c.as_slice-outputs.result.now c.loop-j.j ty.Int))) (sym c.as_slice-in-loop-j.ensures)

pub overflow_cast-result : goal.overflow_cast-result
overflow_cast-result c =
    let tasks = tasks_of c.args.t.now _ c.as_slice.result.now c.parts.ensures.value c.as_slice.ensures in
    omega (arith, (output_at c.args.t.now c.as_slice.result.now c.args.task c.args.first c.loop-j.j c.index-as_slice-task.result c.as_slice-outputs.result.now ty.Int c.parts.ensures.ranges tasks c.requires.task c.index-as_slice-task.is c.requires.first c.if-task.false c.as_slice-outputs.ensures c.loop-j-test.true).few)

pub returns-then-not-fits_at : goal.returns-then-not-fits_at
returns-then-not-fits_at c =
    let tasks = tasks_of c.args.t.now _ c.as_slice.result.now c.parts.ensures.value c.as_slice.ensures in
    let out = output_at c.args.t.now c.as_slice.result.now c.args.task c.args.first c.loop-j.j c.index-as_slice-task.result c.as_slice-outputs.result.now ty.Int c.parts.ensures.ranges tasks c.requires.task c.index-as_slice-task.is c.requires.first c.if-task.false c.as_slice-outputs.ensures c.loop-j-test.true in
    record { behind = omega arith; within = out.within; here = c.fits_at.ensures.unfit c.if-not-fits_at.true; first = c.loop-j.invariant }

pub returns : goal.returns
returns c =
    let tasks = tasks_of c.args.t.now _ c.as_slice.result.now c.parts.ensures.value c.as_slice.ensures in
    let count : count_at _ ≡ length c.index-as_slice-task.result.outputs = outputs_count c.args.t.now c.as_slice.result.now c.args.task c.index-as_slice-task.result tasks c.requires.task c.index-as_slice-task.is ∙ concrete_count c.index-as_slice-task.result c.if-task.false in
    fit_to c.args.t.now c.args.first (c.args.first + c.loop-j.j) _ (omega (arith, count, ap length c.as_slice-outputs.ensures, c.loop-j-test.false, c.loop-j.auto.j-end)) c.loop-j.invariant
