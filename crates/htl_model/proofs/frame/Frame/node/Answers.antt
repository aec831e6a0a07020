use Rattle.std.proofs.Common.{sym, ap, ◌∙◌}
use Rattle.htl_model.specs.Frames.{ways}
use Rattle.htl_model.proofs.FrameBuild.{paths_ways}
use Rattle.htl_model.proofs.frame.Frame.node.Goals as goal

pub node_number-requires-clause-paths : goal.node_number-requires-clause-paths
node_number-requires-clause-paths c = c.requires.frame.paths ∙ paths_ways c.args.t.now c.args.path c.requires.path ∙ sym (ap ways c.requires.frame.radices)
