use Rattle.htl_compile.proofs.Answering.{front_only, front_refused}
use Rattle.htl_compile.proofs.source.front.Goals as goal

pub returns-clause-only : goal.returns-clause-only
returns-clause-only c = λ t source typed. front_only c.args.bytes.now t source typed c.read_bytes.result c.read_bytes.ensures.read

pub returns-clause-refused : goal.returns-clause-refused
returns-clause-refused c = λ f told is. front_refused c.args.bytes.now f told is c.read_bytes.result c.read_bytes.ensures.read
