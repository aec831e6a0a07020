use Rattle.std.proofs.Common.{◌≡◌, ◌<◌, List, length, get_or, subst, sym, ap, ◌∙◌, refl, arith}
use Rattle.htl_walk.proofs.{Words.Tables, Words.Inv, Words.inv_of_mode, Words.length-set, ExtentLaws.stands_first, ExtentLaws.stand_next}
use Rattle.htl_walk.proofs.extents.inv_extents.Goals as goal

pub loop-k-init : goal.loop-k-init
loop-k-init c = record { stand = λ n. stands_first 256 (inv_of_mode n) c.as_slice-invs.result.now n; room = refl }

pub loop-k-preserved : goal.loop-k-preserved
loop-k-preserved c =
    let t = c.args.t.now in
    let k = c.loop-k.k in
    let items = c.as_slice-invs.result.now in
    let x = get_or items k c.index-invs-k.result in
    let all : items ≡ t.invs = c.as_slice-invs.ensures ∙ ap (λ (t : Tables). t.invs) (sym c.parts.ensures.value) in
    let at : x ≡ get_or items k x = ap (get_or items k) c.index-invs-k.is in
    let ranges = c.keeps_ranges.ensures.ranges in
    let owner : x.mode < length t.modes =
    subst (λ (y : Inv). y.mode < length t.modes) (sym (at ∙ ap (λ (xs : List Inv). get_or xs k x) all)) (ranges.invs k x (omega (arith, c.loop-k-test.true, ap length all))).owner in
    record {
      stand = stand_next (λ (y : Inv). y.mode) items k x c.loop-k.table c.widened.result c.loop-k-test.true at (omega (arith, owner, c.loop-k.invariant.room, ranges.few_modes)) c.widened.ensures c.loop-k.invariant.stand;
      room = length-set c.loop-k.table x.mode c.widened.result ∙ c.loop-k.invariant.room;
    }
