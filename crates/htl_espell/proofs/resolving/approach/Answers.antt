use Rattle.std.proofs.Common.{arith, ◌≡◌, ◌-◌, ◌+◌, ℕ, Some, length, sym, ap, subst, ◌∙◌}
use Rattle.htl_espell.proofs.{Words.slice_get, Words.Jump, Words.after_jumps, Jumping.arrive_by_jump, Jumping.arrive_branch, AfterJumps.after_jumps_more, AfterJumps.after_jumps_joined, AfterJumps.chains_in}
use Rattle.htl_espell.proofs.resolving.approach.Goals as goal

pub returns-in-Some-clause-fault : goal.returns-in-Some-clause-fault
returns-in-Some-clause-fault c =
    chains_in c.args.code.now c.args.referrer c.args.anchor c.args.from c.in-Some.rest c.loop-at.jumps c.loop-at.at c.in-Some.ensures.after_jumps c.in-Some.ensures.few ∙ c.loop-at.invariant.fault

pub returns-in-Some-clause-after_jumps : goal.returns-in-Some-clause-after_jumps
returns-in-Some-clause-after_jumps c =
    ap (λ (n : ℕ). after_jumps c.args.code.now c.args.from (n - c.loop-at.jumps + c.in-Some.rest)) c.len.ensures
    ∙ after_jumps_joined c.args.code.now (length c.args.code.now - c.loop-at.jumps) c.in-Some.rest c.args.from c.loop-at.at c.args.anchor c.loop-at.invariant.after_jumps c.in-Some.ensures.after_jumps

pub loop-at-preserved : goal.loop-at-preserved
loop-at-preserved c =
    let there : slice_get c.args.code.now c.loop-at.at ≡ Some (Jump c.in-Jump.target) = sym c.get.ensures ∙ c.in-Some-get.is ∙ ap (λ i. Some i) c.in-Jump.is in
    let step : length c.args.code.now - (c.loop-at.jumps - 1) ≡ (length c.args.code.now - c.loop-at.jumps) + 1 = omega (arith, c.loop-at.invariant.few, c.if-jumps-eq0.false) in
    record {
      fault = arrive_by_jump c.args.code.now c.args.referrer c.args.anchor c.args.from c.loop-at.jumps c.loop-at.at c.in-Jump.target c.loop-at-test.true there (omega (arith, c.if-jumps-eq0.false)) ∙ c.loop-at.invariant.fault;
      few = omega (arith, c.loop-at.invariant.few);
      after_jumps = subst (λ (n : ℕ). after_jumps c.args.code.now c.args.from n ≡ Some c.in-Jump.target) (sym step)
          (after_jumps_more c.args.code.now (length c.args.code.now - c.loop-at.jumps) c.args.from c.loop-at.at c.in-Jump.target c.loop-at.invariant.after_jumps there);
    }

pub returns-in_default-i : goal.returns-in_default-i
returns-in_default-i c =
    record {
      fault = arrive_branch c.args.code.now c.args.referrer c.args.anchor c.args.from c.loop-at.jumps c.loop-at.at c.in-Some-get.i c.loop-at-test.true (sym c.get.ensures ∙ c.in-Some-get.is) c.in_default-i.not-Jump
          ∙ c.loop-at.invariant.fault;
      after_jumps = tt;
    }
