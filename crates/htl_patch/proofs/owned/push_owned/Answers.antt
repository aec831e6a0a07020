use Rattle.std.proofs.Common.{◌++◌, ℕ, List, ap, arith}
use Rattle.htl_patch.proofs.{Words.nat_tests, Words.owned_by, OwnerLaws.owned_from, OwnerLaws.owned_stop, OwnerLaws.among_most}
use Rattle.htl_patch.proofs.owned.push_owned.Goals as goal

pub loop-place-init : goal.loop-place-init
loop-place-init c =
    let most = among_most c.args.m c.args.owners.now in
    let is = c.requires.first in
    (omega arith, omega (arith, most, is), ap (λ (xs : List ℕ). c.args.into.now.items ++ xs) (owned_from c.args.m c.args.first c.args.owners.now is))

pub returns-else-owners-place : goal.returns-else-owners-place
returns-else-owners-place c =
    owned_stop c.args.m c.args.first c.loop-place.place c.args.owners.now c.loop-place.into.items (c.args.into.now.items ++ owned_by c.args.owners.now c.args.m) c.requires.rising c.requires.first
    c.loop-place.invariant.0 c.loop-place.invariant.1 (λ less e. grind (arith, nat_tests, c.if-owners-place.false, e)) c.loop-place.invariant.2
