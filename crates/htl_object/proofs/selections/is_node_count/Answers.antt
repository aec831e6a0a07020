use Rattle.htl_object.proofs.Words.{length, ap, arith, Tables}
use Rattle.htl_object.proofs.selections.is_node_count.Goals as goal

pub are_few-requires : goal.are_few-requires
are_few-requires c =
    omega (arith, c.parts-parts.ensures.ranges.few_modes, ap length c.as_slice-modes.ensures, ap (λ (t : Tables). length t.modes) c.parts-parts.ensures.value)
