use Rattle.std.proofs.Common.{◌≡◌, ◌≤◌, ◌<◌, ◌+◌, ◌++◌, ℕ, suc, List, length, drop, get_or, add-one, ap, sym, refl, subst, ◌∙◌, arith}
use Rattle.htl_plan.proofs.Words.{IsFrame, starts, Tables, Frame, start_read, lists_of, instrs_of, legs, end_to_end, walk_path, walks_from, SInstr, Point, last_point, walk_from, worst_cases, walk_text, length-walk}
use Rattle.htl_plan.proofs.ListByList.{list_next, lists_end, path_leg, path_legs, path_list, path_lists}
use Rattle.htl_plan.proofs.ToldRecords.{IsTold, IsTold-start, IsTold-step, IsTold-cut, IsTold-all, IsTold-count, IsTold-few, IsTold-many, few_finish}
use Rattle.htl_plan.proofs.plan_lists.follow_lists.Given as given
use Rattle.htl_plan.proofs.plan_lists.follow_lists.Goals as goal
use Rattle.htl_plan.proofs.plan_lists.follow_lists.Goals.{After-follow}

-- behind the last start there is no list
no_list_behind : (t : Tables) (f : Frame) (lists : List (List SInstr)) (path j : ℕ) → IsFrame t f → f.count ≤ j → length (lists_of t lists path) ≤ j
no_list_behind t f lists path j frame past = omega (arith, path_lists t lists path, past, frame.count)

pub overflow_add-finished : goal.overflow_add-finished
overflow_add-finished g c =
    let t : Tables = c.args.l.now.tables in
    let jobs = c.args.jobs.now in
    let s = c.list_at-instrs.result.now in
    let x : Point = record { time = get_or c.args.f.now.starts c.loop-j.j 0; left = c.loop-j.left } in
    let few = IsTold-few t jobs _ _ c.loop-j.count c.loop-j.finished _ _ _ _ c.loop-j.invariant.told in
    omega (
      arith,
      few,
      few_finish (walk_from jobs s x),
      length-walk jobs s x,
      c.in-Ok.ensures.count,
      c.list_at-instrs.ensures.few,
      c.loop-j.invariant.few,
      c.requires.frame.limits.starts,
      c.requires.frame.count,
      c.loop-j-test.true,
    )

pub loop-j-init : goal.loop-j-init
loop-j-init g c =
    let t : Tables = c.args.l.now.tables in
    let jobs = c.args.jobs.now in
    let ss = lists_of t (instrs_of c.args.l.now.schedules) c.args.path in
    let gs = legs t c.args.path in
    let total = end_to_end (walk_path jobs (worst_cases jobs) ss gs) in
    let old = g.W.Sink.written c.args.out.now in
    let before = g.W.Sink.faults c.args.out.now in
    record {
      told =
          subst (λ (left : List ℕ). IsTold t jobs total (end_to_end (walks_from jobs ss gs (record { time = 0; left = left }))) 0 0 old old before before) (sym c.requires.work)
          (IsTold-start t jobs total old before);
      same = c.requires.same;
      few = omega arith;
    }

-- the lists from one on are its own and those from the next on
from_list_on : (g : given.Over) (c : After-follow g) (new : List ℕ)
    → new ≡ (last_point c.args.jobs.now c.list_at-instrs.result.now (record { time = get_or c.args.f.now.starts c.loop-j.j 0; left = c.loop-j.left })).left
    → let t : Tables = c.args.l.now.tables in
    let jobs = c.args.jobs.now in
    let ss = lists_of t (instrs_of c.args.l.now.schedules) c.args.path in
    let gs = legs t c.args.path in
    let here : Point = record { time = 0; left = c.loop-j.left } in
    let after : Point = record { time = 0; left = new } in
    end_to_end (walks_from jobs (drop c.loop-j.j ss) (drop c.loop-j.j gs) here)
    ≡ walk_from jobs c.list_at-instrs.result.now (record { time = get_or c.args.f.now.starts c.loop-j.j 0; left = c.loop-j.left })
    ++ end_to_end (walks_from jobs (drop (suc c.loop-j.j) ss) (drop (suc c.loop-j.j) gs) after)
from_list_on g c new last =
    let t : Tables = c.args.l.now.tables in
    let is = instrs_of c.args.l.now.schedules in
    let j = c.loop-j.j in
    let there : j < length (starts t) = omega (arith, c.loop-j-test.true, c.requires.frame.count) in
    list_next c.args.jobs.now (lists_of t is c.args.path) (legs t c.args.path) j (omega (arith, path_lists t is c.args.path, there)) (omega (arith, path_legs t c.args.path, there)) c.list_at-instrs.result.now
    (get_or c.args.f.now.starts j 0) c.loop-j.left new (c.list_at-instrs.ensures.list ∙ sym (path_list t is c.args.path j there))
    (start_read t c.args.f.now j c.requires.frame there ∙ sym (path_leg t c.args.path j there)) last

pub loop-j-preserved : goal.loop-j-preserved
loop-j-preserved g c =
    let t : Tables = c.args.l.now.tables in
    let jobs = c.args.jobs.now in
    let ss = lists_of t (instrs_of c.args.l.now.schedules) c.args.path in
    let gs = legs t c.args.path in
    let s = c.list_at-instrs.result.now in
    let x : Point = record { time = get_or c.args.f.now.starts c.loop-j.j 0; left = c.loop-j.left } in
    let after : Point = record { time = 0; left = c.follow.new.left } in
    let cut =
    from_list_on g (goal.at.loop-j-preserved g c).After-follow c.follow.new.left c.in-Ok.ensures.left
    ∙ ap (λ n. walk_from jobs s x ++ end_to_end (walks_from jobs (drop n ss) (drop n gs) after)) (sym (add-one c.loop-j.j)) in
    record {
      told =
          IsTold-step t jobs _ _ (walk_from jobs s x) _ _ c.loop-j.count _ c.loop-j.finished _ _ _ _ _ _ _ _ cut (ap (λ (u : Tables). walk_text u jobs (walk_from jobs s x)) c.tables.ensures.value)
          (ap (λ n. c.loop-j.count + n) (sym (length-walk jobs s x))) (ap (λ n. c.loop-j.finished + n) c.in-Ok.ensures.count) c.loop-j.invariant.told c.in-Ok.ensures.put;
      same = c.follow.ensures.len ∙ c.loop-j.invariant.same;
      few = omega (arith, c.loop-j.invariant.few, c.list_at-instrs.ensures.few);
    }

pub returns-in-Err-clause-put : goal.returns-in-Err-clause-put
returns-in-Err-clause-put g c =
    let jobs = c.args.jobs.now in
    let s = c.list_at-instrs.result.now in
    let x : Point = record { time = get_or c.args.f.now.starts c.loop-j.j 0; left = c.loop-j.left } in
    let cut = from_list_on g (goal.at.returns-in-Err-clause-put g c).After-follow (last_point jobs s x).left refl in
    IsTold-cut c.args.l.now.tables jobs _ _ (walk_from jobs s x) _ _ c.loop-j.count c.loop-j.finished _ _ _ _ _ _ _ _ cut (ap (λ (u : Tables). walk_text u jobs (walk_from jobs s x)) c.tables.ensures.value)
    c.loop-j.invariant.told c.in-Err.ensures.put

pub returns-clause-finished : goal.returns-clause-finished
returns-clause-finished g c =
    let t : Tables = c.args.l.now.tables in
    let ss = lists_of t (instrs_of c.args.l.now.schedules) c.args.path in
    let past = no_list_behind t c.args.f.now (instrs_of c.args.l.now.schedules) c.args.path c.loop-j.j c.requires.frame c.loop-j-test.false in
    IsTold-count t c.args.jobs.now _ _ _ _ _ _ _ _ c.loop-j.invariant.told (lists_end c.args.jobs.now ss _ c.loop-j.j _ past)

pub returns-clause-count : goal.returns-clause-count
returns-clause-count g c =
    let t : Tables = c.args.l.now.tables in
    let ss = lists_of t (instrs_of c.args.l.now.schedules) c.args.path in
    let past = no_list_behind t c.args.f.now (instrs_of c.args.l.now.schedules) c.args.path c.loop-j.j c.requires.frame c.loop-j-test.false in
    IsTold-many t c.args.jobs.now _ _ _ _ _ _ _ _ c.loop-j.invariant.told (lists_end c.args.jobs.now ss _ c.loop-j.j _ past)

pub returns-clause-put : goal.returns-clause-put
returns-clause-put g c =
    let t : Tables = c.args.l.now.tables in
    let ss = lists_of t (instrs_of c.args.l.now.schedules) c.args.path in
    let past = no_list_behind t c.args.f.now (instrs_of c.args.l.now.schedules) c.args.path c.loop-j.j c.requires.frame c.loop-j-test.false in
    IsTold-all t c.args.jobs.now _ _ _ _ _ _ _ _ c.loop-j.invariant.told (lists_end c.args.jobs.now ss _ c.loop-j.j _ past) _
