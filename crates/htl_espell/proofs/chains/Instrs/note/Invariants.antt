use Rattle.std.proofs.Common.{◌≡◌, Some}
use Rattle.htl_espell.specs.JumpChains.{after_jumps}
use Rattle.htl_espell.proofs.chains.Instrs.note.Given as goal

abbrev pub invariant-loop-k : goal.invariant-loop-k
invariant-loop-k l = record { same : l.self ≡ l.fn.self; after_jumps : after_jumps l.fn.self l.rest.place l.rest.jumps ≡ Some l.rest.anchor }
