use Rattle.htl_emach.proofs.{Words.arith, Words.sym, Words.subst, Words.spelled_departs_not, Words.FollowsCode, Words.StandsSafely, Instants.first_follows, SafeCalls.first_safely, Soundness.sound}
use Rattle.htl_emach.proofs.emach.EMach.new.Goals as goal

pub returns-clause-safe : goal.returns-clause-safe
returns-clause-safe c =
    subst (StandsSafely c.args.t.now c.args.code.now) (sym c.in-Ok.ensures) (first_safely c.args.t.now c.args.code.now c.keeps_ranges.ensures.ranges)

pub returns-clause-follows : goal.returns-clause-follows
returns-clause-follows c = λ kept spelled es.
    subst (FollowsCode c.args.t.now c.args.code.now es 0) (sym c.in-Ok.ensures)
    (first_follows c.args.t.now c.args.code.now es (sound c.args.t.now c.args.code.now 12 (omega arith) c.keeps_ranges.ensures.ranges kept (spelled_departs_not c.args.t.now c.args.code.now spelled)))
