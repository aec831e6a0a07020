use Rattle.htl_compile.proofs.{FromSource.all_compiled, SourceStops.all_unbuilt}
use Rattle.htl_compile.proofs.compiling.compile_source.Goals as goal

pub returns-clause-compiled : goal.returns-clause-compiled
returns-clause-compiled c =
    all_compiled (λ v. v.items) c.args.bytes.now c.in_ok-tables.tables c.in_ok-tables.ensures.read c.object_of_tables.result c.object_of_tables.ensures.object

pub returns-clause-fault : goal.returns-clause-fault
returns-clause-fault c =
    all_unbuilt c.args.bytes.now c.in_ok-tables.tables c.requires c.in_ok-tables.ensures.read c.object_of_tables.result c.object_of_tables.ensures.fault
