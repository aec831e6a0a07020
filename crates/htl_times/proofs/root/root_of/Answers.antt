use Rattle.std.proofs.Common.{◌≡◌, ◌∙◌, arith, length, rules, sym}
use Rattle.htl_times.proofs.Rising.{comes_to, goes_up, looked_enough}
use Rattle.htl_times.proofs.root.root_of.Goals as goal

pub loop-step-preserved : goal.loop-step-preserved
loop-step-preserved c = goes_up c.args.t.now c.args.inv c.loop-step.at c.in-Some.parent c.loop-step.step (sym c.inv_parent.ensures ∙ c.in-Some.is) c.loop-step.invariant

pub returns-in-None : goal.returns-in-None
returns-in-None c =
    let same : length c.as_slice-step-end.result.now ≡ length c.args.t.now.modules = search rules in
    comes_to c.args.t.now c.args.inv c.loop-step.at c.loop-step.step (sym c.inv_parent.ensures ∙ c.in-None.is) (omega (arith, same, c.loop-step-test.true)) c.loop-step.invariant

pub returns : goal.returns
returns c =
    let same : length c.as_slice-step-end.result.now ≡ length c.args.t.now.modules = search rules in
    looked_enough c.args.t.now c.args.inv c.loop-step.at c.loop-step.step (omega (arith, same, c.loop-step-test.false)) (omega (arith, same, c.loop-step.auto.step-end)) c.loop-step.invariant
