use Rattle.std.proofs.Common.{get_or, ◌∙◌, Some, None, ap, sym, subst}
use Rattle.htl_patch.proofs.{Words.is_transferred, Words.Replacement, Words.AreInRange, Words.mode_module, JoinLaws.counterparts_within, JoinLaws.counterpart_is, JoinLaws.matched_is_none, JoinLaws.unmatched_is, JoinLaws.inv_unit}
use Rattle.htl_patch.proofs.joining.is_unmatched_parent.Goals as goal

pub bounds : goal.bounds
bounds c =
    let g = c.args.g.now in
    counterparts_within g c.args.counterparts.now c.requires.counterparts c.args.p c.requires.p

pub is_transferred-requires-clause-unit : goal.is_transferred-requires-clause-unit
is_transferred-requires-clause-unit c =
    (inv_unit c.args.g.now.donor c.invs.result.now c.args.p c.mode_module-unit.result c.index-invs-p.result (subst (λ (z : Replacement). AreInRange z.donor) c.g.view_is c.invs.ensures.ranges) (c.invs.ensures.value ∙ ap (λ (z : Replacement). z.donor.invs) c.g.view_is) c.requires.p c.index-invs-p.is (c.mode_module-unit.ensures ∙ ap (λ (z : Replacement). mode_module z.donor (get_or c.invs.result.now c.args.p c.index-invs-p.result).mode) c.g.view_is)).0

pub returns-in-Some : goal.returns-in-Some
returns-in-Some c =
    let g = c.args.g.now in
    sym (matched_is_none g c.args.counterparts.now c.requires.counterparts c.args.p c.requires.p c.in-Some.field-0 (counterpart_is g c.args.counterparts.now c.requires.counterparts c.args.p c.requires.p (Some c.in-Some.field-0) c.in-Some.is))

pub returns-in-None : goal.returns-in-None
returns-in-None c =
    let g = c.args.g.now in
    let unit = (inv_unit c.args.g.now.donor c.invs.result.now c.args.p c.mode_module-unit.result c.index-invs-p.result (subst (λ (z : Replacement). AreInRange z.donor) c.g.view_is c.invs.ensures.ranges) (c.invs.ensures.value ∙ ap (λ (z : Replacement). z.donor.invs) c.g.view_is) c.requires.p c.index-invs-p.is (c.mode_module-unit.ensures ∙ ap (λ (z : Replacement). mode_module z.donor (get_or c.invs.result.now c.args.p c.index-invs-p.result).mode) c.g.view_is)).1 in
    sym (unmatched_is g c.args.counterparts.now c.requires.counterparts c.args.p c.requires.p c.is_transferred.result (counterpart_is g c.args.counterparts.now c.requires.counterparts c.args.p c.requires.p None c.in-None.is)
    (c.is_transferred.ensures ∙ ap (is_transferred g) unit))
