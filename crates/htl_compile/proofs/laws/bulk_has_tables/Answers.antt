use Rattle.htl_compile.proofs.GeneratedTables.{bulk_has_tables}
use Rattle.htl_compile.proofs.laws.bulk_has_tables.Goals as goal

pub returns : goal.returns
returns c = λ n some few. bulk_has_tables n some few
