use Rattle.std.proofs.Common.{◌<◌, length, refl, sym, ap, ◌∙◌, arith, add-one, Ok, Err}
use Rattle.htl_runs.proofs.lines.PutLines.{IsPutting-step, Puts-cut}
use Rattle.htl_top.proofs.Bulking.{value_put}
use Rattle.htl_top.specs.Bulk.{value_seen}
use Rattle.htl_top.proofs.bulk.write_values.Goals as goal

pub loop-c-preserved : goal.loop-c-preserved
loop-c-preserved g c =
    rw add-one (
    IsPutting-step c.args.t.now (value_seen c.args.machine.now) c.loop-c.c (value_seen c.args.machine.now c.loop-c.c) (g.W.Sink.written c.args.out.now) (g.W.Sink.written c.loop-c.out)
    (g.W.Sink.written c.write_value.new.out) (g.W.Sink.faults c.args.out.now) (g.W.Sink.faults c.loop-c.out) (g.W.Sink.faults c.write_value.new.out) c.in_default.field-0 refl c.loop-c.invariant
    (value_put c.args.t.now c.args.machine.now c.loop-c.c (g.W.Sink.written c.loop-c.out) (g.W.Sink.written c.write_value.new.out) (g.W.Sink.faults c.loop-c.out)
    (g.W.Sink.faults c.write_value.new.out) (Ok c.in_default.field-0) c.in_default.ensures)
    )

pub returns-in-Err : goal.returns-in-Err
returns-in-Err g c =
    let same = c.as_slice-c-end.ensures ∙ sym (ap (λ z. z.comms) c.parts.ensures.value) in
    let inside : c.loop-c.c < length c.args.t.now.comms = omega (arith, ap length same, c.loop-c-test.true) in
    Puts-cut c.args.t.now (value_seen c.args.machine.now) c.loop-c.c (length c.args.t.now.comms) (value_seen c.args.machine.now c.loop-c.c) (g.W.Sink.written c.args.out.now)
    (g.W.Sink.written c.loop-c.out) (g.W.Sink.written c.write_value.new.out) (g.W.Sink.faults c.args.out.now) (g.W.Sink.faults c.loop-c.out) (g.W.Sink.faults c.write_value.new.out) c.in-Err.failed
    c.in-Err.failed inside refl c.loop-c.invariant
    (value_put c.args.t.now c.args.machine.now c.loop-c.c (g.W.Sink.written c.loop-c.out) (g.W.Sink.written c.write_value.new.out) (g.W.Sink.faults c.loop-c.out)
    (g.W.Sink.faults c.write_value.new.out) (Err c.in-Err.failed) c.in-Err.ensures)
