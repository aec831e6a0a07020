use Rattle.htl_names.proofs.Words.{map-map, rules}
use Rattle.htl_names.proofs.items.output_types.Goals as goal

pub returns : goal.returns
returns c = search (rules, map-map)
