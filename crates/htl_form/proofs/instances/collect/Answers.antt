use Rattle.std.proofs.Common.{◌+◌}
use Rattle.htl_form.proofs.ApartLaws.{near}
use Rattle.htl_form.proofs.instances.collect.Goals as goal

pub add_inv-len-requires-clause-near : goal.add_inv-len-requires-clause-near
add_inv-len-requires-clause-near c = near c.args.t.now (c.args.base + c.loop-q.q) c.inv_at-inv.result.now c.keeps_ranges.ensures.ranges c.inv_at-inv.ensures
