use Rattle.htl_compile.proofs.BuiltLaws.{built_accepted}
use Rattle.htl_compile.proofs.laws.built_is_accepted.Goals as goal

pub returns : goal.returns
returns c = λ platform t h. built_accepted platform t h
