use Rattle.htl_bulk.specs.BulkTree.{bulk_bytes}
use Rattle.htl_top.proofs.{Bulking.loaded_sensor, Bulking.put_built, Going.not_refused}
use Rattle.htl_top.proofs.bulk.run_generated.Goals as goal

pub measure-requires-clause-sensor : goal.measure-requires-clause-sensor
measure-requires-clause-sensor g c = loaded_sensor c.requires.0 c.args.object.now c.in-Ok.loaded c.requires.3 c.requires.1 c.requires.2 c.in-Ok.ensures.only

pub unreachable-requires : goal.unreachable-requires
unreachable-requires g c =
    not_refused (bulk_bytes c.requires.0) c.args.object.now c.in-Err-Refused.field-0 c.in-Err-Refused.field-0-0 c.requires.3 c.in-Err-Refused.ensures.only c.in-Err-Refused.field-0-is

pub returns-in-Ok-clause-answer : goal.returns-in-Ok-clause-answer
returns-in-Ok-clause-answer g c = λ n.
    put_built c.args.object.now c.in-Ok.loaded (g.W.Sink.written c.args.out.now) (g.W.Sink.written c.measure.new.out) (g.W.Sink.faults c.args.out.now) (g.W.Sink.faults c.measure.new.out)
    c.measure.result c.in-Ok.ensures.only c.measure.ensures.answer (bulk_bytes n)
