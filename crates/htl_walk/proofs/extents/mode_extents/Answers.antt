use Rattle.std.proofs.Common.{◌≡◌, ◌<◌, List, length, get_or, subst, sym, ap, ◌∙◌, refl, arith}
use Rattle.htl_walk.proofs.{Words.Tables, Words.Mode, Words.mode_of_module, Words.length-set, ExtentLaws.stands_first, ExtentLaws.stand_next}
use Rattle.htl_walk.proofs.extents.mode_extents.Goals as goal

pub loop-k-init : goal.loop-k-init
loop-k-init c = record { stand = λ n. stands_first 64 (mode_of_module n) c.as_slice-modes.result.now n; room = refl }

pub loop-k-preserved : goal.loop-k-preserved
loop-k-preserved c =
    let t = c.args.t.now in
    let k = c.loop-k.k in
    let items = c.as_slice-modes.result.now in
    let x = get_or items k c.index-modes-k.result in
    let all : items ≡ t.modes = c.as_slice-modes.ensures ∙ ap (λ (t : Tables). t.modes) (sym c.parts.ensures.value) in
    let at : x ≡ get_or items k x = ap (get_or items k) c.index-modes-k.is in
    let ranges = c.keeps_ranges.ensures.ranges in
    let owner : x.«module» < length t.modules =
    subst (λ (y : Mode). y.«module» < length t.modules) (sym (at ∙ ap (λ (xs : List Mode). get_or xs k x) all)) (ranges.modes k x (omega (arith, c.loop-k-test.true, ap length all))).owner in
    record {
      stand = stand_next (λ (y : Mode). y.«module») items k x c.loop-k.table c.widened.result c.loop-k-test.true at (omega (arith, owner, c.loop-k.invariant.room, ranges.few_modules)) c.widened.ensures c.loop-k.invariant.stand;
      room = length-set c.loop-k.table x.«module» c.widened.result ∙ c.loop-k.invariant.room;
    }
