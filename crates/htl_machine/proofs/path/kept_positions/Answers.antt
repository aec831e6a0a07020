use Rattle.std.proofs.Common.{ne_eqb, cond, sym, ap}
use Rattle.htl_machine.proofs.path.kept_positions.Goals as goal

pub returns-else-offset-eq0 : goal.returns-else-offset-eq0
returns-else-offset-eq0 c = ap (λ b. cond b 0 c.args.count) (sym (ne_eqb c.args.offset 0 c.if-offset-eq0.false))
