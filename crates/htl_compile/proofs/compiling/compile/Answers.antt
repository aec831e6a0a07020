use Rattle.htl_compile.proofs.Answering.{compile_only, compile_refused}
use Rattle.htl_compile.proofs.compiling.compile.Goals as goal

pub returns-clause-only : goal.returns-clause-only
returns-clause-only c = λ t source typed formed free. compile_only (λ v. v.items) c.args.bytes.now t source typed formed free c.bytes_or_fault.result c.bytes_or_fault.ensures.compiled c.bytes_or_fault.ensures.fault

pub returns-clause-refused : goal.returns-clause-refused
returns-clause-refused c = λ f told is. compile_refused (λ v. v.items) c.args.bytes.now f told is c.bytes_or_fault.result c.bytes_or_fault.ensures.compiled c.bytes_or_fault.ensures.fault
