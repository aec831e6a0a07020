use Rattle.std.proofs.Common.{◌≡◌, ◌-◌, ◌+◌, ℕ, length, slice_get, Some, sym, ◌∙◌, ap, arith}
use Rattle.htl_model.proofs.{Words.chosen_in, Words.Tables, ChosenLaws.chosen_past, ChosenLaws.chosen_here, ChosenLaws.chosen_none, ChosenLaws.chosen_down, ChosenLaws.inv_stands}
use Rattle.htl_model.proofs.choice.chosen_by.Goals as goal

pub returns-then-at-invs : goal.returns-then-at-invs
returns-then-at-invs c =
    let same : c.as_slice-invs.result.now ≡ c.args.t.now.invs = c.as_slice-invs.ensures ∙ sym (ap (λ (t : Tables). t.invs) c.lists.ensures) in
    sym (chosen_past c.args.t.now c.args.modes.now c.loop.at _ (omega (arith, c.if-at-invs.true, ap length same))) ∙ c.loop.invariant

pub returns-then-is_concrete : goal.returns-then-is_concrete
returns-then-is_concrete c =
    let same : c.as_slice-invs.result.now ≡ c.args.t.now.invs = c.as_slice-invs.ensures ∙ sym (ap (λ (t : Tables). t.invs) c.lists.ensures) in
    let modules : c.as_slice-end.result.now ≡ c.args.t.now.modules = c.as_slice-end.ensures ∙ sym (ap (λ (t : Tables). t.modules) c.lists-2.ensures) in
    let x = c.index-invs-at.result in
    let at : slice_get c.args.t.now.invs c.loop.at ≡ Some x = inv_stands c.args.t.now c.as_slice-invs.result.now c.loop.at x same c.if-at-invs.false c.index-invs-at.is in
    sym (chosen_here c.args.t.now c.args.modes.now c.loop.at _ x (omega (arith, c.loop-test.true, ap length modules)) at (sym c.is_concrete.ensures ∙ c.if-is_concrete.true))
    ∙ c.loop.invariant

pub returns-in-None : goal.returns-in-None
returns-in-None c =
    let same : c.as_slice-invs.result.now ≡ c.args.t.now.invs = c.as_slice-invs.ensures ∙ sym (ap (λ (t : Tables). t.invs) c.lists.ensures) in
    let x = c.index-invs-at.result in
    let at : slice_get c.args.t.now.invs c.loop.at ≡ Some x = inv_stands c.args.t.now c.as_slice-invs.result.now c.loop.at x same c.if-at-invs.false c.index-invs-at.is in
    sym (chosen_none c.args.t.now c.args.modes.now c.loop.at _ x at (sym c.is_concrete.ensures ∙ c.if-is_concrete.false) (sym (c.requires c.loop.at) ∙ sym c.entry.ensures ∙ c.in-None.is))
    ∙ c.loop.invariant

pub loop-preserved : goal.loop-preserved
loop-preserved c =
    let same : c.as_slice-invs.result.now ≡ c.args.t.now.invs = c.as_slice-invs.ensures ∙ sym (ap (λ (t : Tables). t.invs) c.lists.ensures) in
    let modules : c.as_slice-end.result.now ≡ c.args.t.now.modules = c.as_slice-end.ensures ∙ sym (ap (λ (t : Tables). t.modules) c.lists-2.ensures) in
    let x = c.index-invs-at.result in
    let at : slice_get c.args.t.now.invs c.loop.at ≡ Some x = inv_stands c.args.t.now c.as_slice-invs.result.now c.loop.at x same c.if-at-invs.false c.index-invs-at.is in
    let next = chosen_down c.args.t.now c.args.modes.now c.loop.at (length c.args.t.now.modules - c.loop.counter) c.in-Some.child x _ (omega (arith, c.loop-test.true, ap length modules)) at
    (sym c.is_concrete.ensures ∙ c.if-is_concrete.false) (sym (c.requires c.loop.at) ∙ sym c.entry.ensures ∙ c.in-Some.is) c.loop.invariant in
    let less : length c.args.t.now.modules - (c.loop.counter + 1) ≡ length c.args.t.now.modules - c.loop.counter - 1 = omega arith in
    ap (λ (n : ℕ). chosen_in n c.args.t.now c.args.modes.now c.in-Some.child) less ∙ next
