use Rattle.htl_base.specs.Held.{IsHeld-copied, length-name}
use Rattle.htl_base.proofs.name.Name.from_known.Goals as goal

pub invariant_of-result : goal.invariant_of-result
invariant_of-result c =
    rw c.copy_from_slice.ensures.after (IsHeld-copied c.args.bytes.now c.requires (length-name _ c.requires))
