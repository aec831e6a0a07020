use Rattle.std.proofs.Common.{◌≡◌, false, length, ◌-◌}
use Rattle.htl_machine.proofs.Words.{IsPrinting, IsRecording}
use Rattle.htl_machine.proofs.instant_records.leave_records.Given as goal

abbrev pub invariant-loop-left : goal.invariant-loop-left
invariant-loop-left g l = record {
  values : l.works.world.values ≡ l.initial.works.world.values;
  recording : IsRecording l.program.tables.now l.initial.works.s_machine l.initial.works.world l.works.s_machine l.works.world l.list.jobs.now l.list.schedule.now.instrs l.at;
  printing : IsPrinting
      l.program.tables.now
      l.program.show
      l.list.node
      l.initial.works.s_machine
      l.works.s_machine
      l.list.schedule.now.instrs
      l.at
      (g.W.Sink.written l.initial.sink)
      (g.W.Sink.written l.sink)
      (g.W.Sink.faults l.initial.sink)
      (g.W.Sink.faults l.sink)
      l.initial.works.tally
      l.works.tally;
  idle : l.initial.works.s_machine.running ≡ false → (l.works.s_machine ≡ l.initial.works.s_machine) × (l.works.world ≡ l.initial.works.world) × (l.works.tally ≡ l.initial.works.tally) × (g.W.Sink.written l.sink ≡ g.W.Sink.written l.initial.sink);
}

abbrev pub decreases-loop-left : goal.decreases-loop-left
decreases-loop-left g l = length l.list.schedule.now.instrs - l.works.s_machine.place
