use Rattle.htl_top.proofs.Vocabulary.{length, Puts-second, lines_text, totals_line, up_to, value_seen}
use Rattle.htl_top.proofs.bulk.write_state.Goals as goal

pub returns : goal.returns
returns g c =
    let t = c.args.t.now in
    let m = c.args.machine.now in
    Puts-second (g.W.Sink.written c.args.out.now) (g.W.Sink.written c.write_values.new.out) (g.W.Sink.written c.write_totals.new.out) (g.W.Sink.faults c.args.out.now)
    (g.W.Sink.faults c.write_values.new.out) (g.W.Sink.faults c.write_totals.new.out) (lines_text t (up_to (value_seen m) (length t.comms))) (totals_line m.run_state.reading m.jobs m.e m.s)
    c.write_totals.result c.in_default.ensures.whole c.in_default.ensures.cause.kept c.write_totals.ensures
