use Rattle.htl_text.proofs.Words.{take, Adds, each, port_tokens}
use Rattle.htl_text.proofs.printing.ports.Given as goal

abbrev pub invariant-loop-port : goal.invariant-loop-port
invariant-loop-port l = Adds (each port_tokens (take l.port-index l.ports)) l.fn.out l.out
