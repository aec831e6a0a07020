use Rattle.std.proofs.Common.{arith, ◌≡◌, ◌-◌, ◌+◌, ℕ, suc, Some, length, refl, sym, ap, subst, ◌∙◌}
use Rattle.htl_espell.proofs.{Words.slice_get, Words.slice_get_within, Words.resolve, Words.Jump, Words.place_of, Words.after_jumps, Jumping.resolve_by_jump, Jumping.resolve_by_chain, Jumping.resolve_past, Jumping.resolve_endless}
use Rattle.htl_espell.proofs.AfterJumps.{resolve_passed, after_jumps_passed, after_jumps_more}
use Rattle.htl_espell.proofs.resolving.follow.Goals as goal

pub returns-in_default-clause-place : goal.returns-in_default-clause-place
returns-in_default-clause-place c =
    sym (resolve_past c.args.code.now c.args.from c.skip-place.result.1 c.skip-place.result.0 (sym c.get.ensures ∙ c.in_default.is))
    ∙ resolve_passed c.args.code.now c.args.from c.loop-i.left c.skip-place.result.1 c.loop-i.at c.skip-place.result.0 c.skip-place.ensures.few c.skip-place.ensures.after_jumps c.loop-i.invariant.place

pub returns-then-rest-eq0-clause-place : goal.returns-then-rest-eq0-clause-place
returns-then-rest-eq0-clause-place c =
    sym (resolve_endless c.args.code.now c.args.from c.skip-place.result.1 c.skip-place.result.0 c.in-Jump.target (sym c.get.ensures ∙ c.in-Some.is ∙ ap (λ i. Some i) c.in-Jump.is) c.if-rest-eq0.true)
    ∙ resolve_passed c.args.code.now c.args.from c.loop-i.left c.skip-place.result.1 c.loop-i.at c.skip-place.result.0 c.skip-place.ensures.few c.skip-place.ensures.after_jumps c.loop-i.invariant.place

pub loop-i-preserved : goal.loop-i-preserved
loop-i-preserved c =
    let code = c.args.code.now in
    let rest = c.skip-place.result.1 in
    let place = c.skip-place.result.0 in
    let there : slice_get code place ≡ Some (Jump c.in-Jump.target) = sym c.get.ensures ∙ c.in-Some.is ∙ ap (λ i. Some i) c.in-Jump.is in
    let one : suc (rest - 1) ≡ rest = omega (arith, c.if-rest-eq0.false) in
    let step : (length code - rest) + 1 ≡ length code - (rest - 1) = omega (arith, c.if-rest-eq0.false, c.skip-place.ensures.few, c.loop-i.invariant.few) in
    record {
      place = resolve_by_jump code c.args.from (rest - 1) place c.in-Jump.target (Jump c.in-Jump.target) there refl
          ∙ ap (λ k. place_of (resolve code c.args.from k place)) one
          ∙ resolve_passed code c.args.from c.loop-i.left rest c.loop-i.at place c.skip-place.ensures.few c.skip-place.ensures.after_jumps c.loop-i.invariant.place;
      few = omega (arith, c.if-rest-eq0.false, c.skip-place.ensures.few, c.loop-i.invariant.few);
      after_jumps = subst (λ (n : ℕ). after_jumps code c.args.from n ≡ Some c.in-Jump.target) step
          (after_jumps_more code (length code - rest) c.args.from place c.in-Jump.target
          (after_jumps_passed code c.args.from (length code) c.loop-i.left rest c.loop-i.at place (omega (arith, c.loop-i.invariant.few)) c.skip-place.ensures.few c.loop-i.invariant.after_jumps c.skip-place.ensures.after_jumps) there);
    }

pub returns-in_default-i : goal.returns-in_default-i
returns-in_default-i c =
    let code = c.args.code.now in
    let rest = c.skip-place.result.1 in
    let place = c.skip-place.result.0 in
    let there : slice_get code place ≡ Some c.in-Some.i = sym c.get.ensures ∙ c.in-Some.is in
    record {
      place = sym (resolve_by_chain code c.args.from rest place c.in-Some.i there c.in_default-i.not-Jump)
          ∙ resolve_passed code c.args.from c.loop-i.left rest c.loop-i.at place c.skip-place.ensures.few c.skip-place.ensures.after_jumps c.loop-i.invariant.place;
      within = slice_get_within code place c.in-Some.i there;
      after_jumps = ap (λ (n : ℕ). after_jumps code c.args.from (n - rest)) c.len.ensures
          ∙ after_jumps_passed code c.args.from (length code) c.loop-i.left rest c.loop-i.at place (omega (arith, c.loop-i.invariant.few)) c.skip-place.ensures.few c.loop-i.invariant.after_jumps c.skip-place.ensures.after_jumps;
    }
