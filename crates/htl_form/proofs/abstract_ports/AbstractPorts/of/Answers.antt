use Rattle.htl_form.proofs.Words.{false, get_or-replicate}
use Rattle.htl_form.proofs.abstract_ports.AbstractPorts.of.Goals as goal

pub loop-k-init : goal.loop-k-init
loop-k-init c = λ p below. get_or-replicate 4096 p false false below
