use Rattle.std.proofs.Common.{◌≡◌, IfOk, length, ap, subst, arith, ◌∙◌}
use Rattle.htl_patch.proofs.{Words.nat_tests, Words.Inv, Words.new_numbers, Words.Replacement, NewItems.inv_here, NewItems.inv_there, NewItems.inv_parent_in}
use Rattle.htl_patch.proofs.mode_items.new_inv.Goals as goal

pub copied_inv-requires : goal.copied_inv-requires
copied_inv-requires c =
    let g = c.args.g.now in
    (inv_here g c.keeps_ranges.ensures.host c.keeps_ranges.ensures.donor (new_numbers g) c.args.p.now c.requires.places c.invs-front.result.now c.args.k c.index-front-k.result (c.invs-front.ensures.value ∙ ap (λ (z : Replacement). z.host.invs) c.g.view_is) (grind (arith, nat_tests, c.if-k-front.true)) c.index-front-k.is).0

pub returns-then-k-front : goal.returns-then-k-front
returns-then-k-front c =
    let g = c.args.g.now in
    subst (λ (z : Inv). IfOk c.copied_inv.result (λ y. y ≡ z)) (inv_here g c.keeps_ranges.ensures.host c.keeps_ranges.ensures.donor (new_numbers g) c.args.p.now c.requires.places c.invs-front.result.now c.args.k c.index-front-k.result (c.invs-front.ensures.value ∙ ap (λ (z : Replacement). z.host.invs) c.g.view_is) (grind (arith, nat_tests, c.if-k-front.true)) c.index-front-k.is).1 c.copied_inv.ensures

pub moved_parent-requires-clause-within : goal.moved_parent-requires-clause-within
moved_parent-requires-clause-within c =
    let g = c.args.g.now in
    inv_parent_in g c.keeps_ranges.ensures.host c.keeps_ranges.ensures.donor (new_numbers g) c.args.p.now c.requires.places c.invs-front.result.now c.invs.result.now c.args.k c.index-invs-k.result (c.invs-front.ensures.value ∙ ap (λ (z : Replacement). z.host.invs) c.g.view_is) (c.invs.ensures.value ∙ ap (λ (z : Replacement). z.donor.invs) c.g.view_is) (grind (arith, nat_tests, c.if-k-front.false)) c.requires.within c.index-invs-k.is

pub copied_inv-requires-2 : goal.copied_inv-requires-2
copied_inv-requires-2 c =
    let g = c.args.g.now in
    (inv_there g c.keeps_ranges.ensures.host c.keeps_ranges.ensures.donor (new_numbers g) c.args.p.now c.requires.places c.invs-front.result.now c.invs.result.now c.args.k (length c.modes.result.now) (length c.tasks.result.now) (length c.ports.result.now) c.index-invs-k.result c.moved_parent.result (c.invs-front.ensures.value ∙ ap (λ (z : Replacement). z.host.invs) c.g.view_is) (c.invs.ensures.value ∙ ap (λ (z : Replacement). z.donor.invs) c.g.view_is) (grind (arith, nat_tests, c.if-k-front.false)) c.requires.within c.index-invs-k.is (ap length (c.modes.ensures.value ∙ ap (λ (z : Replacement). z.host.modes) c.g.view_is)) (ap length (c.tasks.ensures.value ∙ ap (λ (z : Replacement). z.host.tasks) c.g.view_is)) (ap length (c.ports.ensures.value ∙ ap (λ (z : Replacement). z.host.ports) c.g.view_is)) c.moved_parent.ensures).0

pub returns : goal.returns
returns c =
    let g = c.args.g.now in
    subst (λ (z : Inv). IfOk c.copied_inv-2.result (λ y. y ≡ z)) (inv_there g c.keeps_ranges.ensures.host c.keeps_ranges.ensures.donor (new_numbers g) c.args.p.now c.requires.places c.invs-front.result.now c.invs.result.now c.args.k (length c.modes.result.now) (length c.tasks.result.now) (length c.ports.result.now) c.index-invs-k.result c.moved_parent.result (c.invs-front.ensures.value ∙ ap (λ (z : Replacement). z.host.invs) c.g.view_is) (c.invs.ensures.value ∙ ap (λ (z : Replacement). z.donor.invs) c.g.view_is) (grind (arith, nat_tests, c.if-k-front.false)) c.requires.within c.index-invs-k.is (ap length (c.modes.ensures.value ∙ ap (λ (z : Replacement). z.host.modes) c.g.view_is)) (ap length (c.tasks.ensures.value ∙ ap (λ (z : Replacement). z.host.tasks) c.g.view_is)) (ap length (c.ports.ensures.value ∙ ap (λ (z : Replacement). z.host.ports) c.g.view_is)) c.moved_parent.ensures).1 c.copied_inv-2.ensures
