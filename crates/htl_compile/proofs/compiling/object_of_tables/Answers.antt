use Rattle.htl_compile.proofs.FromSource.{object_spelled}
use Rattle.htl_compile.proofs.compiling.object_of_tables.Goals as goal

pub returns-clause-object : goal.returns-clause-object
returns-clause-object c =
    object_spelled c.args.platform c.args.tables c.in_ok-object.object c.in_ok-bytes.bytes.items c.in_ok-object.ensures.built c.in_ok-object.ensures.formed c.in_ok-object.ensures.schedulable
    c.in_ok-bytes.ensures.object c.in_ok-bytes.ensures.spelled
