use Rattle.std.proofs.Common.{◌++◌, [], ◌∷◌, length, map, arith, refl, sym, ap, ◌∙◌}
use Rattle.htl_model.proofs.{Words.length-append, Words.take_more_set, Words.unit_period, FrameSteps.begins_zero, FrameSteps.room_for, FrameSteps.starts_next}
use Rattle.std.proofs.Math.ListN.{length-set}
use Rattle.htl_model.proofs.starts.fill_starts.Goals as goal

pub loop-at-init : goal.loop-at-init
loop-at-init c = record {
  front = refl;
  count = refl;
  within = omega arith;
  here = λ l. begins_zero (unit_period c.args.t.now) c.args.roots.now c.requires.some;
  len = c.requires.room;
}

pub bounds-out-n : goal.bounds-out-n
bounds-out-n c =
    let ps = map (unit_period c.args.t.now) c.args.roots.now in
    let less = c.loop-at-test.true in
    omega (arith, room_for ps c.loop-at.at c.args.frame (c.loop-at.invariant.here less) less, c.loop-at.invariant.count, c.loop-at.invariant.len, c.requires.few)

pub loop-at-preserved : goal.loop-at-preserved
loop-at-preserved c =
    let ps = map (unit_period c.args.t.now) c.args.roots.now in
    let less = c.loop-at-test.true in
    let room = room_for ps c.loop-at.at c.args.frame (c.loop-at.invariant.here less) less in
    let next = starts_next ps c.loop-at.at c.next_begin-at.result (c.loop-at.invariant.here less) c.next_begin-at.ensures.later c.next_begin-at.ensures.none in
    record {
      front = take_more_set c.loop-at.out c.loop-at.n c.loop-at.at (omega (arith, room, c.loop-at.invariant.count, c.loop-at.invariant.len, c.requires.few)) ∙ ap (λ (xs : _). xs ++ c.loop-at.at ∷ []) c.loop-at.invariant.front ∙ sym next;
      count = omega (arith, c.loop-at.invariant.count, ap (λ (xs : _). length xs) next ∙ length-append _ (c.loop-at.at ∷ []));
      within = c.next_begin-at.ensures.within;
      here = c.next_begin-at.ensures.here;
      len = simp length-set c.loop-at.invariant.len;
    }
