use Rattle.std.proofs.Common.{◌<◌, arith, sym, subst}
use Rattle.htl_walk.proofs.{Words.paths, Words.AreWalkedTo, Words.instrs_of, NodeWalks.all_accepted, CodeWalk.fork_clean, CodeWalk.fork_saved, CodeWalk.clean_paths, CodeWalk.saved_path, CodeWalk.missed, CodeWalk.refused_all}
use Rattle.htl_walk.proofs.node_walk.walk_paths.Goals.{then-path-eq0, else-path-eq0}
use Rattle.htl_walk.proofs.node_walk.walk_paths.Goals as goal

pub walk_on-requires-clause-walked : goal.walk_on-requires-clause-walked
walk_on-requires-clause-walked c =
    let t = c.args.t.now in
    let lists = instrs_of c.args.lists.now in
    let path = c.loop-path.path in
    let h : path < paths t = omega (arith, c.loop-path-test.true, c.survey-f.ensures.paths) in
    elim c.if-path-eq0.branch [
      | then-path-eq0 w ↦ record { clean = λ j l. absurd (omega (arith, l, w.first-is)); saved = λ i p l b. absurd (omega (arith, l, w.first-is)) }
      | else-path-eq0 w ↦
          subst (λ d. AreWalkedTo t lists path d c.loop-path.states) (sym w.first-is)
          (record {
            clean = fork_clean t lists c.requires.walkable path w.fork-first.result (omega (arith, w.if-path-eq0.false)) h w.fork-first.ensures.within w.fork-first.ensures.shared c.loop-path.invariant.clean;
            saved = fork_saved t lists c.requires.walkable path w.fork-first.result c.loop-path.states (omega (arith, w.if-path-eq0.false)) h w.fork-first.ensures.within w.fork-first.ensures.shared c.loop-path.invariant.clean
                c.loop-path.invariant.saved;
          })
    ]

pub returns-in-Err-clause-missed : goal.returns-in-Err-clause-missed
returns-in-Err-clause-missed c =
    missed c.args.t.now (instrs_of c.args.lists.now) c.requires.walkable c.loop-path.path c.in-Err.miss (omega (arith, c.loop-path-test.true, c.survey-f.ensures.paths)) c.loop-path.invariant.clean c.in-Err.ensures.missed

pub returns-in-Err-clause-refused : goal.returns-in-Err-clause-refused
returns-in-Err-clause-refused c =
    refused_all c.args.t.now (instrs_of c.args.lists.now) c.requires.walkable c.loop-path.path c.in-Err.miss
    (missed c.args.t.now (instrs_of c.args.lists.now) c.requires.walkable c.loop-path.path c.in-Err.miss (omega (arith, c.loop-path-test.true, c.survey-f.ensures.paths)) c.loop-path.invariant.clean c.in-Err.ensures.missed)

pub loop-path-preserved : goal.loop-path-preserved
loop-path-preserved c =
    let t = c.args.t.now in
    let lists = instrs_of c.args.lists.now in
    let path = c.loop-path.path in
    record {
      clean = clean_paths t lists c.requires.walkable path c.loop-path.invariant.clean c.in_default.ensures.walked.clean;
      saved = saved_path t lists c.requires.walkable path c.walk_on.new.states c.in_default.ensures.walked.saved;
      room = c.in_default.ensures.room;
    }

pub returns-clause-accepted : goal.returns-clause-accepted
returns-clause-accepted c =
    all_accepted c.args.t.now (instrs_of c.args.lists.now) c.requires.walkable (λ q l. c.loop-path.invariant.clean q (omega (arith, l, c.loop-path-test.false, c.survey-f.ensures.paths)))
