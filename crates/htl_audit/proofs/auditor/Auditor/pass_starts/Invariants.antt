use Rattle.std.proofs.Common.{◌-◌, ◌≤◌, List}
use Rattle.htl_audit.proofs.{Words.Event, Words.IsStopped, Words.IsSameAudit, Going.IsGoing}
use Rattle.htl_audit.proofs.auditor.Auditor.pass_starts.Given as goal

abbrev pub invariant-starts : goal.invariant-starts
invariant-starts g l =
    ((es : List Event) → IsStopped l.initial.self es → IsGoing l.initial.self l.self es (g.W.Sink.written l.initial.sink) (g.W.Sink.written l.sink) (g.W.Sink.faults l.initial.sink) (g.W.Sink.faults l.sink))
    × (l.initial.self.machine.run_state.reading ≤ l.self.machine.run_state.reading) × (l.self.machine.run_state.reading ≤ l.to) × IsSameAudit l.initial.self l.self

abbrev pub decreases-starts : goal.decreases-starts
decreases-starts g l = l.to - l.self.machine.run_state.reading
