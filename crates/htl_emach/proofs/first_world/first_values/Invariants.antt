use Rattle.std.proofs.Common.{◌≡◌, map, take}
use Rattle.htl_model.specs.declared.parts.Comm.{Comm}
use Rattle.htl_emach.proofs.first_world.first_values.Given as goal

abbrev pub invariant-loop-k : goal.invariant-loop-k
invariant-loop-k l = l.values.items ≡ map (λ (c : Comm). c.init) (take l.k l.comms)
