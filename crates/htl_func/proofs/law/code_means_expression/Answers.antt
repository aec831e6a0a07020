use Rattle.htl_func.proofs.CodeMeans.{code_means}
use Rattle.htl_func.proofs.law.code_means_expression.Goals as goal

pub returns : goal.returns
returns c = code_means
