use Rattle.std.proofs.Common.{◌+◌, ℕ, [], ◌∷◌, get_or, ap, arith, add-one, ◌∙◌, sym, refl}
use Rattle.htl_plan.proofs.{Words.slice_get-get_or, Words.Dispatch, Words.Point, Words.left_by, Words.next_point, PlanWalk.left_next, PlanWalk.last_next, PlanWalk.last_reached, PlanWalk.nothing_left, PlanWalk.one_finish, PlanWalk.one_text}
use Rattle.htl_plan.proofs.ToldRecords.{IsTold-start, IsTold-step, IsTold-cut, IsTold-all, IsTold-count, IsTold-few}
use Rattle.htl_plan.proofs.plan_walk.follow.Goals as goal

pub step-requires-clause-known : goal.step-requires-clause-known
step-requires-clause-known g c = c.requires.known c.loop-k.k _ (omega arith)

pub loop-k-init : goal.loop-k-init
loop-k-init g c = record {
  told = IsTold-start c.args.t.now c.args.jobs.now _ _ _;
  goes = refl;
  same = c.requires.same;
}

pub with_finish-done-requires : goal.with_finish-done-requires
with_finish-done-requires g c = omega (arith, IsTold-few _ _ _ _ _ _ _ _ _ _ c.loop-k.invariant.told, c.requires.few)

pub loop-k-preserved : goal.loop-k-preserved
loop-k-preserved g c =
    let t = c.args.t.now in
    let jobs = c.args.jobs.now in
    let instrs = c.args.instrs.now in
    let i = get_or instrs c.loop-k.k (Dispatch 0 0) in
    let here = slice_get-get_or instrs c.loop-k.k (Dispatch 0 0) (omega arith) in
    let x : Point = record { time = c.loop-k.time; left = c.loop-k.left } in
    let l = left_by jobs i x (next_point jobs i x) in
    let next = c.in-Ok.ensures.next in
    let more = ap (λ (n : ℕ). c.loop-k.done + n) (one_finish l _ c.in-Ok.ensures.finished) in
    record {
      told =
          rw (add-one, c.with_finish-done.ensures)
          (IsTold-step t jobs _ _ (l ∷ []) _ _ c.loop-k.k _ c.loop-k.done _ _ _ _ _ _ _ _ (left_next t jobs instrs c.loop-k.k i x here _ next) (one_text t jobs l) (omega arith) more c.loop-k.invariant.told c.in-Ok.ensures.put);
      goes = rw add-one (last_next t jobs instrs c.loop-k.k i x here _ next ∙ c.loop-k.invariant.goes);
      same = c.step.ensures.len ∙ c.loop-k.invariant.same;
    }

pub returns-in-Err-clause-put : goal.returns-in-Err-clause-put
returns-in-Err-clause-put g c =
    let t = c.args.t.now in
    let jobs = c.args.jobs.now in
    let instrs = c.args.instrs.now in
    let i = get_or instrs c.loop-k.k (Dispatch 0 0) in
    let here = slice_get-get_or instrs c.loop-k.k (Dispatch 0 0) (omega arith) in
    let x : Point = record { time = c.loop-k.time; left = c.loop-k.left } in
    let l = left_by jobs i x (next_point jobs i x) in
    IsTold-cut t jobs _ _ (l ∷ []) _ _ c.loop-k.k c.loop-k.done _ _ _ _ _ _ _ _ (left_next t jobs instrs c.loop-k.k i x here _ refl) (one_text t jobs l) c.loop-k.invariant.told c.in-Err.ensures.put

pub returns-clause-count : goal.returns-clause-count
returns-clause-count g c =
    IsTold-count c.args.t.now c.args.jobs.now _ _ _ _ _ _ _ _ c.loop-k.invariant.told (nothing_left c.args.jobs.now c.args.instrs.now c.loop-k.k _ (omega arith))

pub returns-clause-left : goal.returns-clause-left
returns-clause-left g c =
    ap (λ (x : Point). x.left) (sym (last_reached c.args.jobs.now c.args.instrs.now c.loop-k.k _ (omega arith)) ∙ c.loop-k.invariant.goes)

pub returns-clause-put : goal.returns-clause-put
returns-clause-put g c =
    IsTold-all c.args.t.now c.args.jobs.now _ _ _ _ _ _ _ _ c.loop-k.invariant.told (nothing_left c.args.jobs.now c.args.instrs.now c.loop-k.k _ (omega arith)) _
