use Rattle.htl_compile.proofs.SourceLaws.{tables_unique}
use Rattle.htl_compile.proofs.laws.one_tables.Goals as goal

pub returns : goal.returns
returns c = λ bytes t u. tables_unique bytes t u
