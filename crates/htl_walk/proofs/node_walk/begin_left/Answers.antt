use Rattle.htl_walk.proofs.{Words.arith, Words.instrs_of, CodeWalk.resumed_first, CodeWalk.first_left_is, CodeWalk.later_left_is}
use Rattle.htl_walk.proofs.node_walk.begin_left.Goals as goal

pub returns-then-first-eq0 : goal.returns-then-first-eq0
returns-then-first-eq0 c =
    first_left_is c.args.p.t.now (instrs_of c.args.p.lists.now) c.args.p.path c.args.first _ (omega (arith, c.if-first-eq0.true))
    (resumed_first c.args.p.t.now (instrs_of c.args.p.lists.now) c.requires.walkable c.args.p.path _ c.resume.new.left c.args.at.jobs.now c.requires.path c.requires.jobs c.resume.ensures.left (omega (arith, c.requires.few, c.resume.array_long)))

pub returns : goal.returns
returns c =
    later_left_is c.args.p.t.now c.args.p.f.now (instrs_of c.args.p.lists.now) c.requires.walkable c.args.p.path c.args.first c.known_by-known.result c.args.at.places.now c.args.states.now c.resume-2.new.left c.args.at.jobs.now c.requires.frame c.requires.path
    (omega (arith, c.if-first-eq0.false)) c.requires.first c.requires.places c.requires.jobs c.known_by-known.ensures.known c.requires.walked.clean c.requires.walked.saved c.resume-2.ensures.left (omega (arith, c.requires.few, c.resume-2.array_long))
