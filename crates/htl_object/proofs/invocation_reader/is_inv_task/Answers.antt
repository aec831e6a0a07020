use Rattle.htl_object.proofs.Words.{length, sym, arith, ltb-true}
use Rattle.htl_object.proofs.invocation_reader.is_inv_task.Goals as goal

pub is_invoked-requires-clause-few : goal.is_invoked-requires-clause-few
is_invoked-requires-clause-few c = omega (arith, c.requires.few, ltb-true c.args.task (length c.args.tasks.now) (sym c.in-Some.ensures.lookup.0))
