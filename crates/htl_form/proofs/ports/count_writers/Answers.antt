use Rattle.std.proofs.Common.{ap, sym, ◌∙◌, arith, length}
use Rattle.htl_form.proofs.PortLaws.{room_left}
use Rattle.htl_form.proofs.ports.count_writers.Goals as goal

pub add_ends-requires : goal.add_ends-requires
add_ends-requires c =
    let same = c.as_slice-invs.ensures ∙ sym (ap (λ z. z.invs) c.parts.ensures.value) in
    λ p. omega (
      arith,
      ap length c.as_slice.ensures,
      room_left c.args.t.now c.as_slice-invs.result.now c.loop-k.counts c.loop-k.k c.index-invs-k.result c.parts.ensures.ranges same (omega arith) c.index-invs-k.is
          (λ q within. c.loop-k.invariant.count q (omega arith)) p,
    )
