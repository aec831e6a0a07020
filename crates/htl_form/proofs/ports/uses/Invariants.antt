use Rattle.std.proofs.Common.{◌≡◌, ◌≤◌, take}
use Rattle.htl_model.specs.PortWriters.{port_uses}
use Rattle.htl_form.proofs.ports.uses.Given as goal

abbrev pub invariant-loop-k : goal.invariant-loop-k
invariant-loop-k l = (l.n ≡ port_uses l.port (take l.k l.ends)) × (l.n ≤ l.k)
