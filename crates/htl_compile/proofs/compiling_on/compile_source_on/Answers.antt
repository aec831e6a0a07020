use Rattle.std.proofs.lemmas.Result.{err_from_is_err_and}
use Rattle.htl_compile.proofs.SourceStops.{IsNotCompiledOn-unplaced, all_compiled_on, all_unbuilt_on}
use Rattle.htl_compile.proofs.compiling_on.compile_source_on.Goals as goal

pub returns-in_err-tables-2-clause-fault : goal.returns-in_err-tables-2-clause-fault
returns-in_err-tables-2-clause-fault c =
    let p = err_from_is_err_and c.from_residual-in_err-tables-2.result c.from_residual-in_err-tables-2.ensures.1 in
    rw (p.1, p.2) (IsNotCompiledOn-unplaced c.args.bytes.now c.args.platform.now c.in_ok-tables.tables c.in_err-tables-2.field-0.0 c.requires c.in_ok-tables.ensures.read c.in_err-tables-2.ensures.refused)

pub returns-clause-compiled : goal.returns-clause-compiled
returns-clause-compiled c =
    all_compiled_on c.args.bytes.now c.args.platform.now c.in_ok-tables.tables c.in_ok-tables-2.tables c.in_ok-tables-2.name c.requires c.in_ok-tables.ensures.read c.in_ok-tables-2.ensures.on
    (λ v. v.items) c.object_of_tables.result c.object_of_tables.ensures.object

pub returns-clause-fault : goal.returns-clause-fault
returns-clause-fault c =
    all_unbuilt_on c.args.bytes.now c.args.platform.now c.in_ok-tables.tables c.in_ok-tables-2.tables c.in_ok-tables-2.name c.requires c.in_ok-tables.ensures.read c.in_ok-tables-2.ensures.on
    c.object_of_tables.result c.object_of_tables.ensures.fault
