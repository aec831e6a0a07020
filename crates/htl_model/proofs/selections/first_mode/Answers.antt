use Rattle.std.proofs.Common.{◌≡◌, ◌+◌, map, sym, ◌∙◌, ap, subst, arith}
use Rattle.htl_model.proofs.{Words.IsNonDecreasing, Words.Mode, Words.modes_below, Words.Tables, RootModeLaws.modes_grow, RootModeLaws.modes_most, RootModeLaws.first_back, RootModeLaws.first_found}
use Rattle.htl_model.proofs.selections.first_mode.Goals as goal

pub loop-first-init : goal.loop-first-init
loop-first-init c =
    let modes : c.as_slice-modes.result.now ≡ c.args.t.now.modes = c.as_slice-modes.ensures ∙ sym (ap (λ (t : Tables). t.modes) c.lists.ensures) in
    let end : c.args.end ≡ modes_below c.as_slice-modes.result.now (c.args.module + 1) = c.requires ∙ sym (ap (λ ms. modes_below ms (c.args.module + 1)) modes) in
    record {
      low = omega (arith, modes_grow c.as_slice-modes.result.now c.args.module, end);
      high = omega arith;
      within = omega (arith, modes_most c.as_slice-modes.result.now (c.args.module + 1), end);
    }

pub loop-first-preserved : goal.loop-first-preserved
loop-first-preserved c =
    let modes : c.as_slice-modes.result.now ≡ c.args.t.now.modes = c.as_slice-modes.ensures ∙ sym (ap (λ (t : Tables). t.modes) c.lists.ensures) in
    let rising = subst (λ ms. IsNonDecreasing (map (λ (m : Mode). m.«module») ms)) (sym modes) c.keeps_ranges.ensures.ranges.modes_by_module in
    record {
      low = first_back c.as_slice-modes.result.now c.args.module c.loop-first.first c.index-modes-first.result rising (omega (arith, c.loop-first-test.true)) (omega (arith, c.loop-first.invariant.high, c.loop-first.invariant.within)) c.index-modes-first.is (ap (λ (m : Mode). m.«module») c.index-modes-first.is ∙ omega (arith, c.if-modes-first.true));
      high = omega (arith, c.loop-first.invariant.high);
      within = c.loop-first.invariant.within;
    }

pub returns-else-modes-first-clause-first : goal.returns-else-modes-first-clause-first
returns-else-modes-first-clause-first c =
    let modes : c.as_slice-modes.result.now ≡ c.args.t.now.modes = c.as_slice-modes.ensures ∙ sym (ap (λ (t : Tables). t.modes) c.lists.ensures) in
    let rising = subst (λ ms. IsNonDecreasing (map (λ (m : Mode). m.«module») ms)) (sym modes) c.keeps_ranges.ensures.ranges.modes_by_module in
    let end : c.args.end ≡ modes_below c.as_slice-modes.result.now (c.args.module + 1) = c.requires ∙ sym (ap (λ ms. modes_below ms (c.args.module + 1)) modes) in
    first_found c.as_slice-modes.result.now c.args.module c.loop-first.first c.index-modes-first.result rising (omega (arith, c.loop-first-test.true)) (omega (arith, c.loop-first.invariant.high, c.loop-first.invariant.within))
    c.index-modes-first.is (λ e. omega (arith, e, ap (λ (m : Mode). m.«module») c.index-modes-first.is, c.if-modes-first.false)) (omega (arith, c.loop-first.invariant.high, end)) c.loop-first.invariant.low
    ∙ ap (λ ms. modes_below ms c.args.module) modes
