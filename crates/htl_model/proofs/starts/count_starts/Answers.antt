use Rattle.std.proofs.Common.{◌∷◌, [], List, ℕ, length, map, arith, refl, ap, ◌∙◌}
use Rattle.htl_model.proofs.{Words.length-append, Words.unit_period, FrameSteps.begins_zero, FrameSteps.starts_next}
use Rattle.htl_model.proofs.starts.count_starts.Goals as goal

pub loop-at-init : goal.loop-at-init
loop-at-init c = record { count = refl; few = omega arith; within = omega arith; here = λ l. begins_zero (unit_period c.args.t.now) c.args.roots.now c.requires.some }

pub loop-at-preserved : goal.loop-at-preserved
loop-at-preserved c =
    let ps = map (unit_period c.args.t.now) c.args.roots.now in
    let less = c.loop-at-test.true in
    let next = starts_next ps c.loop-at.at c.next_begin-at.result (c.loop-at.invariant.here less) c.next_begin-at.ensures.later c.next_begin-at.ensures.none in
    record {
      count = omega (arith, c.loop-at.invariant.count, ap (λ (xs : List ℕ). length xs) next ∙ length-append _ (c.loop-at.at ∷ []));
      few = omega (arith, c.loop-at.invariant.few, c.next_begin-at.ensures.later);
      within = c.next_begin-at.ensures.within;
      here = c.next_begin-at.ensures.here;
    }
