use Rattle.std.proofs.Common.{◌<◌, length, arith, sym, ap, ◌∙◌, add-one}
use Rattle.htl_walk.proofs.Words.{length-set, starts, counted, reached, instrs_of}
use Rattle.htl_walk.proofs.CodeWalk.{at_list, clean_here, miss_here, left_next, clean_more, saved_more, left_length, jobs_few, known_within}
use Rattle.htl_walk.proofs.node_walk.walk_jobs.Goals as goal

pub worst_list-requires-clause-same : goal.worst_list-requires-clause-same
worst_list-requires-clause-same c = left_length c.args.p.t.now (instrs_of c.args.p.lists.now) c.args.p.path c.loop-j.j c.args.at.jobs.now c.loop-j.left c.requires.jobs c.loop-j.invariant.left

pub save-requires : goal.save-requires
save-requires c =
    omega (
      arith,
      left_length c.args.p.t.now (instrs_of c.args.p.lists.now) c.args.p.path c.loop-j.j c.args.at.jobs.now c.loop-j.left c.requires.jobs c.loop-j.invariant.left,
      jobs_few c.args.p.t.now c.args.p.path c.args.at.jobs.now c.requires.walkable c.requires.path c.requires.jobs,
      c.worst_list.auto.left,
    )

pub returns-in-Err-clause-missed : goal.returns-in-Err-clause-missed
returns-in-Err-clause-missed c =
    let t = c.args.p.t.now in
    let path = c.args.p.path in
    let j = c.loop-j.j in
    let l : j < length (starts t) = omega (arith, c.loop-j-test.true, c.requires.frame.count) in
    let at = at_list t c.args.p.f.now c.args.p.lists.now path j c.known_by-known.result c.node.result c.args.at.places.now c.args.at.jobs.now c.index-lists-node.result c.loop-j.left c.requires.frame l (omega (arith, c.node.ensures.within, c.requires.lists))
    c.known_by-known.ensures.known c.requires.places c.requires.jobs c.node.ensures.node c.index-lists-node.is c.loop-j.invariant.left in (
      j,
      c.in-Err.miss,
      l,
      c.loop-j.invariant.clean,
      miss_here t (instrs_of c.args.p.lists.now) path j _ _ _ _ _ _ c.in-Err.miss at c.in-Err.ensures.missed,
      c.counted.ensures ∙ ap (λ n. counted n c.in-Err.miss) c.count_before.ensures.count,
    )

pub loop-j-preserved : goal.loop-j-preserved
loop-j-preserved c =
    let t = c.args.p.t.now in
    let lists = instrs_of c.args.p.lists.now in
    let path = c.args.p.path in
    let j = c.loop-j.j in
    let l : j < length (starts t) = omega (arith, c.loop-j-test.true, c.requires.frame.count) in
    let at = at_list t c.args.p.f.now c.args.p.lists.now path j c.known_by-known.result c.node.result c.args.at.places.now c.args.at.jobs.now c.index-lists-node.result c.loop-j.left c.requires.frame l (omega (arith, c.node.ensures.within, c.requires.lists))
    c.known_by-known.ensures.known c.requires.places c.requires.jobs c.node.ensures.node c.index-lists-node.is c.loop-j.invariant.left in
    let clean = clean_here t lists path j _ _ _ _ _ _ at c.in-Ok.ensures.clean in
    let left = left_next t lists path j _ _ _ _ _ _ c.in-Ok.field-0 c.worst_list.new.left at c.in-Ok.ensures.point in
    let same = left_length t lists path j c.args.at.jobs.now c.loop-j.left c.requires.jobs c.loop-j.invariant.left in
    record {
      clean = clean_more t lists path j c.loop-j.invariant.clean clean;
      saved = saved_more t lists path j c.loop-j.states c.save.new.out c.worst_list.new.left (omega (arith, c.loop-j.invariant.room, l, c.requires.frame.limits.starts)) c.loop-j.invariant.saved c.save.ensures left
          (omega (arith, known_within t path j c.args.at.jobs.now c.requires.jobs, same, c.worst_list.auto.left));
      left = left ∙ sym (ap (λ n. (reached t lists path n).left) (add-one j));
      finish = c.worst_list.auto.finish ∙ c.loop-j.invariant.finish;
      room = simp length-set c.loop-j.invariant.room;
    }

pub returns-clause-walked : goal.returns-clause-walked
returns-clause-walked c =
    let i = c.loop-j.invariant in
    record { clean = λ j l. i.clean j (omega (arith, l, c.loop-j-test.false, c.requires.frame.count)); saved = λ j p l b. i.saved j p (omega (arith, l, c.loop-j-test.false, c.requires.frame.count)) b }
