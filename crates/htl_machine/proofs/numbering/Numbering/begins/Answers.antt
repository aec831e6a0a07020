use Rattle.std.proofs.Common.{◌∙◌}
use Rattle.htl_machine.proofs.NumberedStarts.{begins_among, begins_never}
use Rattle.htl_machine.proofs.numbering.Numbering.begins.Goals as goal

pub returns-then-self-eq0 : goal.returns-then-self-eq0
returns-then-self-eq0 c = λ t is range kept. begins_never t c.args.self.now c.args.at is range c.if-self-eq0.true

pub returns : goal.returns
returns c = λ t is range kept. c.is_among.ensures ∙ begins_among t c.args.self.now c.args.at is range kept c.if-self-eq0.false
