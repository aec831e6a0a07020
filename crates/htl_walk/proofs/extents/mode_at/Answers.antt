use Rattle.std.proofs.Common.{◌≡◌, ◌<◌, ◌+◌, length, drop, get_or, sym, ap, ◌∙◌, arith}
use Rattle.htl_walk.proofs.{Words.Tables, Words.Mode, Words.mode_of_module, Words.places_from, Words.eq-eqb, Words.ne_eqb, ExtentLaws.place_here, ExtentLaws.place_later}
use Rattle.htl_walk.proofs.extents.mode_at.Goals.{then-list-k+else-left-eq0, else-list-k}
use Rattle.htl_walk.proofs.extents.mode_at.Goals as goal

pub loop-k-preserved : goal.loop-k-preserved
loop-k-preserved c =
    let list = c.as_slice-list.result.now in
    let items : list ≡ c.args.t.now.modes = c.as_slice-list.ensures ∙ ap (λ (t : Tables). t.modes) (sym c.parts.ensures.value) in
    let below : c.loop-k.k < length list = omega (arith, c.loop-k-test.true, c.requires.within, ap length items) in
    let same = ap (λ (m : Mode). m.«module») c.index-list-k.is in
    elim c.if-list-k.branch [
      | then-list-k+else-left-eq0 w ↦
          ap (λ n. get_or (places_from (mode_of_module c.args.module) (c.loop-k.k + 1) (drop (c.loop-k.k + 1) list)) n 0) w.left-is
          ∙ place_here (mode_of_module c.args.module) list c.loop-k.k c.index-list-k.result below c.index-list-k.is c.loop-k.left (eq-eqb c.index-list-k.result.«module» c.args.module (omega (arith, w.if-list-k.true, same))) (λ z. omega (arith, z, w.if-left-eq0.false)) ∙ c.loop-k.invariant
      | else-list-k w ↦
          ap (λ n. get_or (places_from (mode_of_module c.args.module) (c.loop-k.k + 1) (drop (c.loop-k.k + 1) list)) n 0) w.left-is
          ∙ place_later (mode_of_module c.args.module) list c.loop-k.k c.index-list-k.result below c.index-list-k.is c.loop-k.left (ne_eqb c.index-list-k.result.«module» c.args.module (λ z. omega (arith, z, w.if-list-k.false, same))) ∙ c.loop-k.invariant
    ]
