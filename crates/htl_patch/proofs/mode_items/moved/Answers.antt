use Rattle.std.proofs.Common.{Some, None, length, ap, sym, ◌∙◌, arith}
use Rattle.htl_patch.proofs.{Words.Replacement, Words.belongs_to_mode, JoinLaws.counterparts_within, JoinLaws.counterpart_is, JoinLaws.moved_matched, JoinLaws.moved_unmatched, JoinLaws.moved_own}
use Rattle.htl_patch.proofs.mode_items.moved.Goals as goal

pub bounds : goal.bounds
bounds c =
    let g = c.args.g.now in
    counterparts_within g c.args.counterparts.now c.requires.counterparts c.args.k c.requires.within

pub returns-in-Some : goal.returns-in-Some
returns-in-Some c =
    let g = c.args.g.now in
    sym (moved_matched g c.args.k c.in-Some.inv (counterpart_is g c.args.counterparts.now c.requires.counterparts c.args.k c.requires.within (Some c.in-Some.inv) c.in-Some.is) (sym (c.is_of_mode.ensures ∙ ap (λ (z : Replacement). belongs_to_mode z.donor z.replacing_mode c.args.k) c.g.view_is) ∙ c.if-is_of_mode.true))

pub returns-in-None : goal.returns-in-None
returns-in-None c =
    let g = c.args.g.now in
    sym (moved_unmatched g c.args.k (counterpart_is g c.args.counterparts.now c.requires.counterparts c.args.k c.requires.within None c.in-None.is) (sym (c.is_of_mode.ensures ∙ ap (λ (z : Replacement). belongs_to_mode z.donor z.replacing_mode c.args.k) c.g.view_is) ∙ c.if-is_of_mode.true))

pub returns-else-is_of_mode : goal.returns-else-is_of_mode
returns-else-is_of_mode c =
    let g = c.args.g.now in
    sym (moved_own g c.args.k (length c.invs.result.now) (ap length (c.invs.ensures.value ∙ ap (λ (z : Replacement). z.host.invs) c.g.view_is)) (sym (c.is_of_mode.ensures ∙ ap (λ (z : Replacement). belongs_to_mode z.donor z.replacing_mode c.args.k) c.g.view_is) ∙ c.if-is_of_mode.false))

pub overflow_add-result : goal.overflow_add-result
overflow_add-result c =
    let front = c.keeps_ranges.ensures.host.few_invs in
    let back = c.keeps_ranges.ensures.donor.few_invs in
    let size = ap length (c.invs.ensures.value ∙ ap (λ (z : Replacement). z.host.invs) c.g.view_is) in
    omega (arith, front, back, size, c.requires.within)
