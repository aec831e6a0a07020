use Rattle.std.proofs.Common.{ap, length, ◌∙◌}
use Rattle.htl_model.specs.Tables.{Tables}
use Rattle.htl_part_tests.proofs.runs.machine_tests.first_of.Goals as goal

pub shown-requires : goal.shown-requires
shown-requires c = c.requires.follows.before.values.shaped.values.count ∙ ap (λ (t : Tables). length t.comms) c.requires.tables
