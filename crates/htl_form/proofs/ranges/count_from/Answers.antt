use Rattle.htl_form.proofs.RangeLaws.{range_is}
use Rattle.htl_form.proofs.ranges.count_from.Goals as goal

pub returns-clause-range : goal.returns-clause-range
returns-clause-range c = range_is c.args.t.now c.args.mode c.args.base c.next_start.result c.keeps_ranges.ensures.ranges c.requires c.next_start.ensures.start
