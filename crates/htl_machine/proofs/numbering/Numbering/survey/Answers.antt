use Rattle.std.proofs.Common.{◌∙◌, arith}
use Rattle.htl_object.proofs.NodeCounts.{nodes_few}
use Rattle.htl_runs.proofs.lists.NodesBelow.{ways_there, below_starts, starts_many, starts_front, frame_end}
use Rattle.htl_machine.proofs.numbering.Numbering.survey.Goals as goal

pub fill_below-requires-clause-some : goal.fill_below-requires-clause-some
fill_below-requires-clause-some c = ways_there c.args.t.now c.keeps_ranges.ensures.ranges _ c.survey-frame.ensures.radices

pub fill_below-requires-clause-few : goal.fill_below-requires-clause-few
fill_below-requires-clause-few c = omega (arith, c.survey-frame.ensures.nodes, nodes_few c.args.t.now c.keeps_ranges.ensures.ranges c.requires)

pub returns : goal.returns
returns c =
    let t = c.args.t.now in
    let f = c.survey-frame.ensures in
    let many = starts_many t _ f.radices in
    record {
      frame = frame_end t c.survey-frame.result.starts c.survey-frame.result.count f.count f.starts;
      starts_are = starts_front t c.survey-frame.result.starts c.survey-frame.result.count f.count f.starts;
      starts_many = f.count;
      starts_room = f.room;
      few = f.limits.starts;
      room = c.fill_below.array_long;
      below = λ j l. c.fill_below.ensures.below j (omega (arith, l, many)) ∙ below_starts t _ j f.radices;
      small = λ j l. c.fill_below.ensures.small j (omega (arith, l, many));
    }
