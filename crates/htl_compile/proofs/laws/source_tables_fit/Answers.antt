use Rattle.htl_compile.proofs.SourceTables.{source_tables_fit}
use Rattle.htl_compile.proofs.laws.source_tables_fit.Goals as goal

pub returns : goal.returns
returns c = λ bytes t. source_tables_fit bytes t
