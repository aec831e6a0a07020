use Rattle.std.proofs.Common.{ap, ◌∙◌}
use Rattle.htl_base.specs.Names.{is_name}
use Rattle.htl_text.proofs.AtPlaces.{kept-name}
use Rattle.htl_text.proofs.tokens.name_in.Goals as goal

pub from_known-requires : goal.from_known-requires
from_known-requires c = ap is_name c.text_in.ensures ∙ kept-name c.args.source.now c.args.entry c.requires.kept c.requires.kind
