use Rattle.std.proofs.Common.{length, ap, ◌∙◌}
use Rattle.htl_machine.proofs.{Words.on_ok_weaker, Words.phase_path, Words.with_instrs, Words.replay, Words.s_machine_replay, Closings.switches_fail, Closings.reads_second, Closings.switches_start, Marking.reads_next, Marking.sensors_then}
use Rattle.htl_machine.proofs.close.close_instant.Goals as goal

pub do_instrs-requires-clause-starts : goal.do_instrs-requires-clause-starts
do_instrs-requires-clause-starts g c =
    let w = c.requires.closes in
    (w.0, switches_start w.1)

pub returns-in-Err-clause-text : goal.returns-in-Err-clause-text
returns-in-Err-clause-text g c = λ es q.
    switches_fail c.args.program.now.tables.now c.args.program.now.code.now es c.args.program.now.show c.args.at _ _ _ _ _ _ (c.in-Err.ensures.text es (switches_start q))

pub read_instant-requires-clause-reads : goal.read_instant-requires-clause-reads
read_instant-requires-clause-reads g c =
    let w = c.requires.closes in
    let d = c.in_default.ensures.events w.0 (switches_start w.1) in
    (w.0, reads_next c.in_default.ensures.keeps.noted w.1 d.ends d.world)

pub returns-clause-text : goal.returns-clause-text
returns-clause-text g c = λ es q.
    let s = switches_start q in
    let d = c.in_default.ensures.events es s in
    reads_second c.args.program.now.tables.now c.args.program.now.code.now es c.args.program.now.show c.args.at _ _ _ _ _ _ _ _ (c.in_default.ensures.text es s) (c.read_instant.ensures.text es (reads_next c.in_default.ensures.keeps.noted q d.ends d.world))

pub returns-clause-events : goal.returns-clause-events
returns-clause-events g c = λ es q.
    let t = c.args.program.now.tables.now in
    let code = c.args.program.now.code.now in
    let reads = phase_path t code es c.args.at 3 in
    let d = c.in_default.ensures.events es (switches_start q) in
    on_ok_weaker c.read_instant.result
    (λ z. record {
      counts = z.counts ∙ ap (with_instrs (length reads)) d.counts;
      world = z.world ∙ ap (replay t code reads) d.world;
      s_machine = z.s_machine ∙ ap (s_machine_replay code reads) d.s_machine;
      ends = z.ends;
    })
    (c.read_instant.ensures.events es (reads_next c.in_default.ensures.keeps.noted q d.ends d.world))

pub returns-clause-keeps : goal.returns-clause-keeps
returns-clause-keeps g c =
    let d = c.in_default.ensures.keeps.part in
    on_ok_weaker c.read_instant.result
    (λ z. record {
      fitted = z.fitted;
      sensors = sensors_then c.args.program.now.tables.now c.args.machines.now.works.world.values c.do_instrs.new.machines.works.world.values c.read_instant.new.machines.works.world.values d.sensors z.sensors;
      jobs = z.jobs ∙ d.jobs;
      stands = λ s h. z.stands s (d.stands s h);
    })
    c.read_instant.ensures.keeps
