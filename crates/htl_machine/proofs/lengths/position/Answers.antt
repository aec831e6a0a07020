use Rattle.std.proofs.Common.{Some, ◌-◌, cond, take, sym, ap, ◌∙◌, arith}
use Rattle.htl_runs.specs.frames.LastPositions.{position_from}
use Rattle.htl_runs.proofs.frames.LastPositions.{one_step}
use Rattle.htl_machine.proofs.lengths.position.Goals as goal

pub returns-then-is_of-clause-place : goal.returns-then-is_of-clause-place
returns-then-is_of-clause-place c =
    let jobs = c.args.jobs.now in
    let p = c.loop-p.p in
    sym (one_step jobs p c.args.inv _ c.is_of.result c.loop-p.invariant.left (omega arith) c.loop-p.invariant.within c.is_of.ensures
    ∙ ap (λ b. cond b (Some (p - 1)) (position_from 0 (take (p - 1) jobs) c.args.inv)) c.if-is_of.true)

pub loop-p-preserved : goal.loop-p-preserved
loop-p-preserved c =
    let jobs = c.args.jobs.now in
    let p = c.loop-p.p in
    record {
      left =
          one_step jobs p c.args.inv _ c.is_of.result c.loop-p.invariant.left (omega arith) c.loop-p.invariant.within c.is_of.ensures
          ∙ ap (λ b. cond b (Some (p - 1)) (position_from 0 (take (p - 1) jobs) c.args.inv)) c.if-is_of.false;
      within = omega (arith, c.loop-p.invariant.within);
    }
