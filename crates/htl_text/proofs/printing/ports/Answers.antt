use Rattle.htl_text.specs.PrintedTokens.{port_tokens}
use Rattle.htl_text.proofs.Writing.{Adds-each}
use Rattle.htl_text.proofs.printing.ports.Goals as goal

pub loop-port-preserved : goal.loop-port-preserved
loop-port-preserved c =
    let same = c.as_slice-port-items.ensures in
    Adds-each c.args.ports.now c.loop-port.port-index c.port-item.result (rw same at c.loop-port-test.true) (rw same at c.port-item.is) c.args.out.now c.loop-port.out
    c.tokens-in-loop-port.new.self port_tokens c.loop-port.invariant
    (λ more all e. c.tokens.ensures _ all (c.print.ensures _ all (c.tokens-in-loop-port.ensures more all e)))
