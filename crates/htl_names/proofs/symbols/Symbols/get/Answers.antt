use Rattle.std.proofs.Common.{◌∙◌, ap}
use Rattle.htl_names.proofs.{Words.look_up, SymbolLaws.lookup_is}
use Rattle.htl_names.proofs.symbols.Symbols.get.Goals as goal

pub returns : goal.returns
returns c = c.copied.ensures ∙ c.get.ensures.value ∙ lookup_is c.args.key.now c.self.inside.map.entries ∙ ap (look_up c.args.key.now) c.self.view_is
