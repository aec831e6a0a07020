use Rattle.std.proofs.Common.{◌≡◌, ◌<◌, length, get_or, None, refl, sym, ap, ◌∙◌, subst, arith, add-one}
use Rattle.htl_times.proofs.{Words.Schedule, Words.or_else, Words.starts, Words.reached, Words.instrs_of, Words.Point, Words.walk_from, Words.last_point, Words.finish, Words.work, Words.worst_cases, Words.path_jobs, BareWalks.bare_start}
use Rattle.htl_times.specs.Noting.{AreFinishesTo}
use Rattle.htl_times.proofs.PathFinishes.{bare_length, none_yet, one_more, all_lists, walk_here, left_here}
use Rattle.htl_times.proofs.path_walk.walk_lists.Goals as goal

pub loop-j-init : goal.loop-j-init
loop-j-init c =
    let left = c.requires.left ∙ ap (λ js. work js (worst_cases js)) c.requires.jobs ∙ bare_start (path_jobs c.args.p.t.now c.args.p.path) in
    record {
      left = left;
      finishes = none_yet c.args.p.t.now (instrs_of c.args.p.lists.now) c.args.p.path c.args.finish.now c.requires.empty;
      same = refl;
      work = bare_length c.args.p.t.now (instrs_of c.args.p.lists.now) c.args.p.path c.args.jobs.now c.args.left.now c.requires.jobs left;
    }

pub loop-j-preserved : goal.loop-j-preserved
loop-j-preserved c =
    let t = c.args.p.t.now in
    let lists = instrs_of c.args.p.lists.now in
    let path = c.args.p.path in
    let jobs = c.args.jobs.now in
    let j = c.loop-j.j in
    let l : j < length (starts t) = omega (arith, c.loop-j-test.true, c.requires.frame.count) in
    let n = c.node.result in
    let r = c.index-p-node.result in
    let within : n < length c.args.p.lists.now = omega (arith, c.node.ensures.within, c.requires.lists) in
    let x : Point = record { time = get_or c.args.p.f.now.starts j 0; left = c.loop-j.left } in
    let walk = walk_here t c.args.p.f.now c.args.p.lists.now path j n jobs r c.loop-j.left c.requires.frame l within c.requires.jobs c.node.ensures.node c.index-p-node.is c.loop-j.invariant.left in
    let left = left_here t c.args.p.f.now c.args.p.lists.now path j n jobs r c.loop-j.left c.requires.frame l within c.requires.jobs c.node.ensures.node c.index-p-node.is c.loop-j.invariant.left in
    let is : c.as_slice.result.now ≡ r.instrs = c.as_slice.ensures ∙ ap (λ (z : Schedule). z.instrs) (sym c.index-p-node.is) in
    record {
      left = c.follow.ensures.left ∙ ap (λ ks. (last_point jobs ks x).left) is ∙ left ∙ sym (ap (λ m. (reached t lists path m).left) (add-one j));
      finishes = subst (λ m. AreFinishesTo t lists path m c.follow.new.finish) (sym (add-one j))
          (one_more t lists path j c.loop-j.finish c.follow.new.finish c.loop-j.invariant.finishes c.follow.ensures.len
          (λ p below. c.follow.ensures.finishes p below ∙ ap (λ ks. or_else (get_or c.loop-j.finish p None) (finish (walk_from jobs ks x) p)) is ∙ ap (λ w. or_else (get_or c.loop-j.finish p None) (finish w p)) walk));
      same = c.follow.ensures.len ∙ c.loop-j.invariant.same;
      work = c.follow.ensures.room ∙ c.loop-j.invariant.work;
    }

pub returns-clause-finishes : goal.returns-clause-finishes
returns-clause-finishes c =
    let t = c.args.p.t.now in
    let lists = instrs_of c.args.p.lists.now in
    let end : c.loop-j.j ≡ length (starts t) = omega (arith, c.loop-j-test.false, c.loop-j.auto.j-end, c.requires.frame.count) in
    all_lists t lists c.args.p.path c.loop-j.finish (subst (λ m. AreFinishesTo t lists c.args.p.path m c.loop-j.finish) end c.loop-j.invariant.finishes)
