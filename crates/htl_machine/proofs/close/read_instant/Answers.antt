use Rattle.std.proofs.Common.{ℕ, List, Option, ap, ◌∙◌}
use Rattle.htl_machine.proofs.{Words.on_ok_weaker, Words.list_at, Words.Content, Closings.modes_known, Closings.reads_fail, Closings.changes_last, Closings.reads_start}
use Rattle.htl_machine.proofs.close.read_instant.Goals as goal

pub do_instrs-requires-clause-starts : goal.do_instrs-requires-clause-starts
do_instrs-requires-clause-starts g c =
    let w = c.requires.reads in
    (w.0, reads_start w.1)

pub returns-in-Err-clause-text : goal.returns-in-Err-clause-text
returns-in-Err-clause-text g c = λ es q.
    reads_fail c.args.program.now.tables.now c.args.program.now.code.now es c.args.program.now.show c.args.at _ _ _ _ _ _ (c.in-Err.ensures.text es (reads_start q))

pub put_changes-requires-clause-known : goal.put_changes-requires-clause-known
put_changes-requires-clause-known g c =
    let w = c.requires.reads in
    modes_known c.args.program.now.tables.now c.args.program.now.code.now w.0 c.args.at c.do_instrs.new.machines.emach.calendar c.parts-parts.ensures.ranges (c.in_default.ensures.events w.0 (reads_start w.1)).ends.2

pub returns-clause-text : goal.returns-clause-text
returns-clause-text g c = λ es q.
    let kept = c.in_default.ensures.keeps.noted in
    let s = reads_start q in
    let done = c.in_default.ensures.events es s in
    changes_last c.args.program.now.tables.now c.args.program.now.code.now es c.args.program.now.show c.args.at _ _ _ _ _ _ _ _ c.do_instrs.new.machines.noted.values c.do_instrs.new.machines.works.world.values c.do_instrs.new.machines.noted.modes c.do_instrs.new.machines.emach.calendar c.parts-parts.ensures.ranges (c.in_default.ensures.text es s)
    (λ some. kept.values ∙ q.noted.values_are some) (ap (λ (z : Content). z.values) done.world ∙ q.reads) (λ k less. ap (λ (xs : List (Option ℕ)). list_at xs k) kept.modes ∙ q.noted.modes_are k less) done.ends.2 c.put_changes.ensures

pub returns-clause-events : goal.returns-clause-events
returns-clause-events g c = λ es q. on_ok_weaker c.put_changes.result (λ _. c.in_default.ensures.events es (reads_start q)) c.put_changes.ensures.whole

pub returns-clause-keeps : goal.returns-clause-keeps
returns-clause-keeps g c = on_ok_weaker c.put_changes.result (λ _. c.in_default.ensures.keeps.part) c.put_changes.ensures.whole
