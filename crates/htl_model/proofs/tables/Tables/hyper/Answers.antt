use Rattle.std.proofs.Common.{arith}
use Rattle.htl_model.proofs.FrameBuild.{hyper_is}
use Rattle.htl_model.proofs.tables.Tables.hyper.Goals as goal

pub returns : goal.returns
returns c = hyper_is c.args.self.now c.hyperperiod.result _ c.fill_roots-count.ensures.roots (omega (arith, c.fill_roots-count.ensures.count, c.if-count-eq0.false)) c.hyperperiod.ensures
