use Rattle.htl_compile.proofs.OnPlatform.{with_only, with_refused}
use Rattle.htl_compile.proofs.compiling_on.compile_with.Goals as goal

pub returns-clause-only : goal.returns-clause-only
returns-clause-only c = λ t p of typed says formed free.
    with_only c.args.bytes.now c.args.platform.now t p of says (λ v. v.items) typed formed free c.bytes_or_fault_on.result c.bytes_or_fault_on.ensures.compiled c.bytes_or_fault_on.ensures.fault

pub returns-clause-refused : goal.returns-clause-refused
returns-clause-refused c = λ f told is.
    with_refused c.args.bytes.now c.args.platform.now (λ v. v.items) f told is c.bytes_or_fault_on.result c.bytes_or_fault_on.ensures.compiled c.bytes_or_fault_on.ensures.fault
