use Rattle.htl_form.proofs.Words.{take, list_any, writes_abstractly, MarksPorts}
use Rattle.htl_form.proofs.abstract_ports.AbstractPorts.of.Given as goal

abbrev pub invariant-loop-k : goal.invariant-loop-k
invariant-loop-k l = MarksPorts (λ p. list_any (writes_abstractly l.t p) (take l.k l.invs)) l.marks
