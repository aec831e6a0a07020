use Rattle.std.proofs.Common.{◌≡◌, ◌-◌, ℕ, suc, sym, ◌∙◌, ap, subst, arith}
use Rattle.htl_model.proofs.{Words.AreChildrenFrom, Words.Tables, ChosenLaws.children_none, ChosenLaws.children_more}
use Rattle.htl_model.proofs.choice.running_children.Goals as goal

pub loop-n-init : goal.loop-n-init
loop-n-init c =
    let same : c.as_slice-invs.result.now ≡ c.args.t.now.invs = c.as_slice-invs.ensures ∙ sym (ap (λ (t : Tables). t.invs) c.lists.ensures) in
    (omega arith, children_none c.args.t.now c.args.modes.now c.as_slice-invs.result.now 2048 same)

pub loop-n-preserved : goal.loop-n-preserved
loop-n-preserved c =
    let same : c.as_slice-invs.result.now ≡ c.args.t.now.invs = c.as_slice-invs.ensures ∙ sym (ap (λ (t : Tables). t.invs) c.lists.ensures) in (
      omega (arith, c.loop-n.invariant.0),
      children_more c.args.t.now c.args.modes.now c.loop-n.children c.note_child.new.children c.as_slice-invs.result.now (c.loop-n.n - 1) c.index-invs-n.result same (omega (arith, c.loop-n.invariant.0, c.loop-n-test.true)) c.index-invs-n.is c.note_child.ensures
          (subst (λ (m : ℕ). AreChildrenFrom c.args.t.now c.args.modes.now c.loop-n.children m) (let e : c.loop-n.n ≡ suc (c.loop-n.n - 1) = omega (arith, c.loop-n-test.true) in e) c.loop-n.invariant.1),
    )
