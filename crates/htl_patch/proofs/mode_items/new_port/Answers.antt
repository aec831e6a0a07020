use Rattle.std.proofs.Common.{length, ap, ◌∙◌, arith}
use Rattle.htl_patch.proofs.{Words.nat_tests, Words.new_numbers, Words.Replacement, NewItems.port_here, NewItems.port_there}
use Rattle.htl_patch.proofs.mode_items.new_port.Goals as goal

pub copied_port-requires : goal.copied_port-requires
copied_port-requires c =
    let g = c.args.g.now in
    (port_here g c.keeps_ranges.ensures.host c.keeps_ranges.ensures.donor (new_numbers g) c.args.p.now c.requires.places c.ports-front.result.now c.args.k c.index-front-k.result c.as_slice.result.now (c.ports-front.ensures.value ∙ ap (λ (z : Replacement). z.host.ports) c.g.view_is) (grind (arith, nat_tests, c.if-k-front.true)) c.index-front-k.is c.as_slice.ensures.value).0

pub copied_port-requires-2 : goal.copied_port-requires-2
copied_port-requires-2 c =
    let g = c.args.g.now in
    (port_there g c.keeps_ranges.ensures.host c.keeps_ranges.ensures.donor (new_numbers g) c.args.p.now c.requires.places c.ports-front.result.now c.ports-back.result.now c.args.k (length c.modes-before.result.now) c.index-back-k.result c.as_slice-2.result.now (c.ports-front.ensures.value ∙ ap (λ (z : Replacement). z.host.ports) c.g.view_is) (c.ports-back.ensures.value ∙ ap (λ (z : Replacement). z.donor.ports) c.g.view_is) (grind (arith, nat_tests, c.if-k-front.false)) c.requires.within c.index-back-k.is c.as_slice-2.ensures.value (ap length (c.modes-before.ensures.value ∙ ap (λ (z : Replacement). z.host.modes) c.g.view_is))).0

pub returns-then-k-front : goal.returns-then-k-front
returns-then-k-front c =
    let g = c.args.g.now in
    c.copied_port.ensures ∙ (port_here g c.keeps_ranges.ensures.host c.keeps_ranges.ensures.donor (new_numbers g) c.args.p.now c.requires.places c.ports-front.result.now c.args.k c.index-front-k.result c.as_slice.result.now (c.ports-front.ensures.value ∙ ap (λ (z : Replacement). z.host.ports) c.g.view_is) (grind (arith, nat_tests, c.if-k-front.true)) c.index-front-k.is c.as_slice.ensures.value).1

pub returns : goal.returns
returns c =
    let g = c.args.g.now in
    c.copied_port-2.ensures ∙ (port_there g c.keeps_ranges.ensures.host c.keeps_ranges.ensures.donor (new_numbers g) c.args.p.now c.requires.places c.ports-front.result.now c.ports-back.result.now c.args.k (length c.modes-before.result.now) c.index-back-k.result c.as_slice-2.result.now (c.ports-front.ensures.value ∙ ap (λ (z : Replacement). z.host.ports) c.g.view_is) (c.ports-back.ensures.value ∙ ap (λ (z : Replacement). z.donor.ports) c.g.view_is) (grind (arith, nat_tests, c.if-k-front.false)) c.requires.within c.index-back-k.is c.as_slice-2.ensures.value (ap length (c.modes-before.ensures.value ∙ ap (λ (z : Replacement). z.host.modes) c.g.view_is))).1
