use Rattle.std.proofs.Common.{sym, ap, ◌∙◌}
use Rattle.htl_smach.specs.Rounds.{Round, after}
use Rattle.htl_runs.proofs.{records.DueRecords.is_running, records.RecordSteps.answer_job, records.RecordSteps.recording_step, records.RecordSteps.recording_smaller, records.RecordSteps.recording_end}
use Rattle.htl_machine.proofs.Printing.{printing_step, printing_cut, printing_end, printing_counted, never, nothing_written}
use Rattle.htl_machine.proofs.instant_records.leave_records.Goals as goal

pub put_out-requires-clause-known : goal.put_out-requires-clause-known
put_out-requires-clause-known g c =
    answer_job c.args.program.now.tables.now c.loop-left.works.s_machine c.args.list.now.jobs.now c.args.list.now.schedule.now.instrs c.args.at c.in-Some.left c.requires.list.of c.loop-left.invariant.recording.are c.loop-left.invariant.recording.stands (sym c.run_to.ensures.left ∙ c.in-Some.is)

pub loop-left-smaller : goal.loop-left-smaller
loop-left-smaller g c =
    recording_smaller c.loop-left.works.s_machine c.run_to.new.self c.args.list.now.schedule.now.instrs c.args.at c.in-Some.left (sym c.run_to.ensures.left ∙ c.in-Some.is)
    (c.run_to.ensures.round ∙ ap (λ o. after c.loop-left.works.s_machine c.args.list.now.schedule.now.instrs o) c.in-Some.is)

pub loop-left-preserved : goal.loop-left-preserved
loop-left-preserved g c =
    let next = c.run_to.ensures.round ∙ ap (λ o. after c.loop-left.works.s_machine c.args.list.now.schedule.now.instrs o) c.in-Some.is in
    let answer = sym c.run_to.ensures.left ∙ c.in-Some.is in
    record {
      values = c.put_out.ensures.values ∙ c.loop-left.invariant.values;
      recording =
          recording_step c.args.program.now.tables.now c.args.works.now.s_machine c.loop-left.works.s_machine c.run_to.new.self c.args.works.now.world c.loop-left.works.world c.put_out.new.world c.args.list.now.jobs.now c.args.list.now.schedule.now.instrs c.args.at c.in-Some.left
          c.loop-left.invariant.recording answer next c.run_to.ensures.stands c.put_out.ensures.shaped c.put_out.ensures.world;
      printing =
          printing_step c.args.program.now.tables.now c.args.program.now.show c.args.list.now.node c.args.works.now.s_machine c.loop-left.works.s_machine c.run_to.new.self c.args.works.now.world c.loop-left.works.world c.args.list.now.jobs.now c.args.list.now.schedule.now.instrs c.args.at c.in-Some.left _ _ _ _ _ _ _ _ _ _
          c.loop-left.invariant.recording c.loop-left.invariant.printing answer next c.record.ensures c.in_default-tell_record.ensures;
      idle = λ over. absurd (never c.args.works.now.s_machine c.loop-left.works.s_machine (c.loop-left.invariant.idle over).0 over (is_running c.loop-left.works.s_machine c.args.list.now.schedule.now.instrs c.args.at c.in-Some.left answer));
    }

pub returns-in-Err-clause-text : goal.returns-in-Err-clause-text
returns-in-Err-clause-text g c =
    let answer = sym c.run_to.ensures.left ∙ c.in-Some.is in
    record {
      running =
          printing_cut c.args.program.now.tables.now c.args.program.now.show c.args.list.now.node c.args.works.now.s_machine c.loop-left.works.s_machine c.args.works.now.world c.loop-left.works.world c.args.list.now.jobs.now c.args.list.now.schedule.now.instrs c.args.at c.in-Some.left _ _ _ _ _ _ _ _ _ _
          c.loop-left.invariant.recording c.loop-left.invariant.printing answer c.in-Err.ensures;
      idle = λ over.
          absurd (never c.args.works.now.s_machine c.loop-left.works.s_machine (c.loop-left.invariant.idle over).0 over (is_running c.loop-left.works.s_machine c.args.list.now.schedule.now.instrs c.args.at c.in-Some.left answer));
    }

pub returns-clause-text : goal.returns-clause-text
returns-clause-text g c = record {
  running =
      printing_end c.args.program.now.tables.now c.args.program.now.show c.args.list.now.node c.args.works.now.s_machine c.loop-left.works.s_machine c.args.works.now.world c.loop-left.works.world c.args.list.now.jobs.now c.args.list.now.schedule.now.instrs c.args.at _ _ _ _ _ _ _
      c.loop-left.invariant.recording c.loop-left.invariant.printing (sym c.run_to.ensures.left ∙ c.in_default.is);
  idle = λ over. nothing_written _ _ _ _ _ (c.loop-left.invariant.idle over).3 c.loop-left.invariant.printing.kept;
}

pub returns-clause-left : goal.returns-clause-left
returns-clause-left g c =
    let code = c.args.list.now.schedule.now.instrs in
    let none = sym c.run_to.ensures.left ∙ c.in_default.is in
    let round = c.run_to.ensures.round ∙ ap (λ o. after c.loop-left.works.s_machine code o) c.in_default.is in
    let recording = c.loop-left.invariant.recording in
    record {
      counts =
          printing_counted c.args.program.now.tables.now c.args.program.now.show c.args.list.now.node c.args.works.now.s_machine c.loop-left.works.s_machine c.args.works.now.world c.loop-left.works.world c.args.list.now.jobs.now c.args.list.now.schedule.now.instrs c.args.at _ _ _ _ _ _
          recording c.loop-left.invariant.printing none;
      records =
          recording_end c.args.program.now.tables.now c.args.works.now.s_machine c.loop-left.works.s_machine c.run_to.new.self c.args.works.now.world c.loop-left.works.world c.args.list.now.jobs.now code c.args.at recording
          none round;
      idle = λ over. let i = c.loop-left.invariant.idle over in (round ∙ i.0, i.1, i.2);
      jobs = ap (λ (z : Round). z.jobs) round ∙ recording.are ∙ sym c.requires.works.jobs;
      values = c.loop-left.invariant.values;
      shaped = recording.shaped;
      stands = c.run_to.ensures.stands;
    }
