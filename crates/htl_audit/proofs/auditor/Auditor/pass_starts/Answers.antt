use Rattle.std.proofs.Common.{◌≤◌, suc, ◌∙◌, arith}
use Rattle.htl_audit.proofs.{Words.IsAccepted, Words.subst, Going.stop_first, Going.going_failed, Going.going_on}
use Rattle.htl_audit.proofs.auditor.Auditor.pass_starts.Goals as goal

pub begin_rounds-requires-clause-stopped : goal.begin_rounds-requires-clause-stopped
begin_rounds-requires-clause-stopped g c =
    let w = c.requires.follows in
    let here = c.starts in
    (w.0, (here.invariant.0 w.0 (stop_first c.args.self.now w.0 (subst IsAccepted here.invariant.3.run.object c.next_stop-at.ensures.accepted) w.1)).stopped)

pub returns-in-Err-clause-accepted : goal.returns-in-Err-clause-accepted
returns-in-Err-clause-accepted g c = subst IsAccepted c.starts.invariant.3.run.object c.next_stop-at.ensures.accepted

pub returns-then-at-to-clause-accepted : goal.returns-then-at-to-clause-accepted
returns-then-at-to-clause-accepted g c = subst IsAccepted c.starts.invariant.3.run.object c.next_stop-at.ensures.accepted

pub returns-in-Err-clause-text : goal.returns-in-Err-clause-text
returns-in-Err-clause-text g c = λ es f.
    let here = c.starts in
    let at = c.next_stop-at.result in
    let so_far = here.invariant.0 es f in
    let less : suc at ≤ c.args.to = omega (arith, c.next_stop-at.ensures.high, c.if-at-to.false) in
    let behind : here.self.machine.run_state.reading ≤ suc at = omega (arith, c.next_stop-at.ensures.low) in
    going_failed c.args.self.now here.self es (suc at) c.args.to (g.W.Sink.written c.args.sink.now) (g.W.Sink.written here.sink) (g.W.Sink.written c.begin_rounds.new.sink) (g.W.Sink.faults c.args.sink.now) (g.W.Sink.faults here.sink) (g.W.Sink.faults c.begin_rounds.new.sink)
    c.in-Err.failed c.in-Err.failed here.invariant.1 behind less here.invariant.3.run so_far (c.in-Err.ensures.text es so_far.stopped)

pub starts-preserved : goal.starts-preserved
starts-preserved g c =
    let here = c.starts in
    let at = c.next_stop-at.result in
    let less : suc at ≤ c.args.to = omega (arith, c.next_stop-at.ensures.high, c.if-at-to.false) in
    let behind : here.self.machine.run_state.reading ≤ suc at = omega (arith, c.next_stop-at.ensures.low) in (
      λ es f.
          let so_far = here.invariant.0 es f in
          going_on c.args.self.now here.self c.begin_rounds.new.self es at (g.W.Sink.written c.args.sink.now) (g.W.Sink.written here.sink) (g.W.Sink.written c.begin_rounds.new.sink) (g.W.Sink.faults c.args.sink.now) (g.W.Sink.faults here.sink) (g.W.Sink.faults c.begin_rounds.new.sink)
          c.in_default.field-0 here.invariant.1 behind here.invariant.3.run so_far (c.in_default.ensures.text es so_far.stopped) (c.in_default.ensures.stopped es so_far.stopped) c.in_default.ensures.reading,
      omega (arith, here.invariant.1, behind, c.in_default.ensures.reading),
      omega (arith, less, c.in_default.ensures.reading),
      record {
        run = record { object = c.in_default.ensures.same.run.object ∙ here.invariant.3.run.object; show = c.in_default.ensures.same.run.show ∙ here.invariant.3.run.show };
        log = c.in_default.ensures.same.log ∙ here.invariant.3.log;
      },
    )
