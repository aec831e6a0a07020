use Rattle.htl_script.proofs.{Words.is_space, FirstItems.first_byte}
use Rattle.htl_script.proofs.field.first_space.Goals as goal

pub returns-clause-first : goal.returns-clause-first
returns-clause-first c = first_byte is_space c.args.text.now c.memchr.result c.memchr.ensures
